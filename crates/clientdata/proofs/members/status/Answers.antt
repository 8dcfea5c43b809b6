-- What is owed of `status`.
use Rattle.std.proofs.Common.{◌≡◌, option_and_then, None, Some, ◌∙◌, refl, sym, arith, rules}
use Rattle.std.specs.Prelude.{codes}
use Rattle.std.proofs.lemmas.Bool.{true≢false}
use Rattle.json.specs.Json.{read_key}
use Rattle.json.proofs.Grammar.{read_key-shorter}
use Rattle.serde_json.specs.Data.{no_members, put}
use Rattle.serde_json.specs.Find.{as_str}
use Rattle.clientdata.specs.Passing.{members_at}
use Rattle.clientdata.proofs.Turns.{no_key, no_more, one_member, no_member}
use Rattle.clientdata.proofs.Slots.{set, kept}
use Rattle.clientdata.proofs.members.status.Goals as goal

pub members-init : goal.members-init
members-init c = record { ms = no_members; left = refl; status = refl; shorter = omega arith }

pub returns-in_err-name-clause-members : goal.returns-in_err-name-clause-members
returns-in_err-name-clause-members c =
    let none : members_at c.args.depth no_members c.args.reader.now ≡ None =
    c.members.invariant.left ∙ no_key c.args.depth c.members.invariant.ms c.members.reader c.in_err-name.ensures.value in
    search rules

pub returns-in_err-text-clause-members : goal.returns-in_err-text-clause-members
returns-in_err-text-clause-members c =
    let named : read_key c.members.reader ≡ Some (Some c.in-Some.name.now, c.next_key.new.self) = grind arith in
    let none : members_at c.args.depth no_members c.args.reader.now ≡ None =
    c.members.invariant.left ∙ no_member c.args.depth c.members.invariant.ms _ c.members.reader _ named c.in_err-text.ensures.value in
    search rules

pub members-preserved-then-is_status : goal.members-preserved-then-is_status
members-preserved-then-is_status c =
    let named : read_key c.members.reader ≡ Some (Some c.in-Some.name.now, c.next_key.new.self) = grind arith in
    let read = c.in_ok-text.ensures.value in
    let passed = read_key-shorter _ _ _ named in
    let less = c.in_ok-text.ensures.shorter in
    record {
      ms = put c.in-Some.name.now read.0 c.members.invariant.ms;
      left = c.members.invariant.left ∙ one_member c.args.depth c.members.invariant.ms _ c.members.reader _ _ read.0 named read.1;
      status = set (option_and_then as_str) _ (codes "status") _ read.0 c.members.invariant.ms (c.is_status.ensures.0 c.if-is_status.true) read.2;
      shorter = omega (arith, c.members.invariant.shorter, passed, less);
    }

pub members-preserved : goal.members-preserved
members-preserved c =
    let named : read_key c.members.reader ≡ Some (Some c.in-Some.name.now, c.next_key.new.self) = grind arith in
    let read = c.in_ok-text.ensures.value in
    let passed = read_key-shorter _ _ _ named in
    let less = c.in_ok-text.ensures.shorter in
    record {
      ms = put c.in-Some.name.now read.0 c.members.invariant.ms;
      left = c.members.invariant.left ∙ one_member c.args.depth c.members.invariant.ms _ c.members.reader _ _ read.0 named read.1;
      status = kept (option_and_then as_str) _ (codes "status") _ read.0 c.members.invariant.ms (λ e. true≢false (sym (c.is_status.ensures.1 e) ∙ c.if-is_status.false)) c.members.invariant.status;
      shorter = omega (arith, c.members.invariant.shorter, passed, less);
    }

pub returns-clause-members : goal.returns-clause-members
returns-clause-members c =
    let ended : read_key c.members.reader ≡ Some (None, c.next_key.new.self) = grind arith in
    (c.members.invariant.ms, c.members.invariant.left ∙ no_more c.args.depth c.members.invariant.ms c.members.reader _ ended, c.members.invariant.status)
