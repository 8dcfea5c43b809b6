-- What the loop of `all_of` keeps.
use Rattle.std.proofs.Common.{◌≡◌, ◌∷◌, List, map, take}
use Rattle.ctap_open_replies.specs.Replies.{Assertion as Signed}
use Rattle.ctap_open_replies.specs.ReplyView.{assertion_view}
use Rattle.client_ceremony.specs.Commands.{EachTells}
use Rattle.client_ceremony.proofs.assertions.all_of.Given as goal

abbrev pub invariant-loop-reply : goal.invariant-loop-reply
invariant-loop-reply l =
    (qs : List Signed) × EachTells qs (take l.reply-index (map (λ v. v.items) l.replies)) × (map assertion_view l.all.items ≡ assertion_view l.fn.first ∷ qs)
