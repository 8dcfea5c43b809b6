-- What is owed of `read_text`.
use Rattle.std.proofs.Common.{◌≡◌, Some, Option, option_and_then, ◌∙◌, sym, ap, subst}
use Rattle.std.specs.Prelude.{IfOk}
use Rattle.clientdata.specs.Passing.{whole_of}
use Rattle.clientdata.specs.Reading.{seen_in}
use Rattle.clientdata.specs.declared.seen.Seen.{Seen}
use Rattle.clientdata.proofs.Slots.{seen_found_is}
use Rattle.clientdata.proofs.seen.read_text.Goals as goal

pub returns-in-Ok-find-clause-ok : goal.returns-in-Ok-find-clause-ok
returns-in-Ok-find-clause-ok c =
    let read = c.in-Ok-find.ensures in
    let is = ap (λ ts. option_and_then seen_in (whole_of ts)) (sym c.in-Ok.ensures.ok) ∙ ap (option_and_then seen_in) read.1 ∙ sym (seen_found_is _ read.0 read.2) in
    subst (λ (o : Option Seen). IfOk c.copied.result (λ seen. o ≡ Some seen)) (sym is) c.copied.ensures.ok

pub returns-in-Ok-find-clause-unreadable : goal.returns-in-Ok-find-clause-unreadable
returns-in-Ok-find-clause-unreadable c =
    let read = c.in-Ok-find.ensures in
    let is = ap (λ ts. option_and_then seen_in (whole_of ts)) (sym c.in-Ok.ensures.ok) ∙ ap (option_and_then seen_in) read.1 ∙ sym (seen_found_is _ read.0 read.2) in
    λ e. is ∙ c.copied.ensures.unreadable e

pub returns-clause-unreadable : goal.returns-clause-unreadable
returns-clause-unreadable c = λ e. ap (λ ts. option_and_then seen_in (whole_of ts)) (sym c.in-Ok.ensures.ok) ∙ c.in-Err.ensures
