-- What is owed of `all_of`.
use Rattle.client_ceremony.proofs.Lists.{each_more, parted, take_more}
use Rattle.client_ceremony.specs.Commands.{EachTells}
use Rattle.client_ceremony.specs.Exchanges.{Unread}
use Rattle.client_ceremony.specs.Pieces.{for}
use Rattle.ctap_open_replies.specs.Replies.{Assertion as Signed, IsReply, TellsAssertion}
use Rattle.ctap_open_replies.specs.ReplyView.{assertion_view}
use Rattle.std.proofs.Common.{Global, List, None, Vec, [], ap, drop, length, map, rules, subst, sym, take, ℕ, ◌++◌, ◌+◌, ◌∙◌, ◌∷◌, ◌≡◌, ◌≤◌}
use Rattle.std.proofs.lemmas.List.{length-map, map-append, take_all}
use Rattle.client_ceremony.proofs.assertions.all_of.Goals as goal

pub loop-reply-init : goal.loop-reply-init
loop-reply-init c =
    let e : c.push.new.self.items ≡ c.args.first ∷ [] = search rules in
    ([], tt, ap (map assertion_view) e)

pub loop-reply-preserved : goal.loop-reply-preserved
loop-reply-preserved c =
    let e : c.push-in-Ok.new.self.items ≡ c.loop-reply.all.items ++ (c.in-Ok.next ∷ []) = search rules in
    let told : IsReply (TellsAssertion None) (assertion_view c.in-Ok.next) c.reply-item.result.items = subst (λ (t : List ℕ). IsReply (TellsAssertion None) (assertion_view c.in-Ok.next) t) c.deref.ensures.value c.in-Ok.ensures.told in (
      c.loop-reply.invariant.0 ++ (assertion_view c.in-Ok.next ∷ []),
      subst (λ (t : List (List ℕ)). EachTells (c.loop-reply.invariant.0 ++ (assertion_view c.in-Ok.next ∷ [])) t) (sym (take_more (λ (r : Vec ℕ Global). r.items) c.args.replies.now c.loop-reply.reply-index c.reply-item.result c.loop-reply-test.true c.reply-item.is)) (each_more c.loop-reply.invariant.0 (take c.loop-reply.reply-index (map (λ (r : Vec ℕ Global). r.items) c.args.replies.now)) (assertion_view c.in-Ok.next) c.reply-item.result.items c.loop-reply.invariant.1 told),
      ap (map assertion_view) e ∙ map-append assertion_view c.loop-reply.all.items (c.in-Ok.next ∷ []) ∙ ap (λ (t : List Signed). t ++ (assertion_view c.in-Ok.next ∷ [])) c.loop-reply.invariant.2,
    )

pub returns-in-Err-clause-untold : goal.returns-in-Err-clause-untold
returns-in-Err-clause-untold c =
    let unread : Unread (TellsAssertion None) c.reply-item.result.items c.in-Err.refusal = subst (λ (t : List ℕ). Unread (TellsAssertion None) t c.in-Err.refusal) c.deref.ensures.value c.in-Err.ensures.unread in
    for (c.loop-reply.invariant.0, take c.loop-reply.reply-index (map (λ (r : Vec ℕ Global). r.items) c.args.replies.now), c.reply-item.result.items, drop (c.loop-reply.reply-index + 1) (map (λ (r : Vec ℕ Global). r.items) c.args.replies.now), parted (λ (r : Vec ℕ Global). r.items) c.args.replies.now c.loop-reply.reply-index c.reply-item.result c.loop-reply-test.true c.reply-item.is, c.loop-reply.invariant.1, unread)

pub returns-clause-all : goal.returns-clause-all
returns-clause-all c =
    let past : length (map (λ (r : Vec ℕ Global). r.items) c.args.replies.now) ≤ c.loop-reply.reply-index = subst (λ (n : ℕ). n ≤ c.loop-reply.reply-index) (sym (length-map c.args.replies.now (λ (r : Vec ℕ Global). r.items))) c.loop-reply-test.false in
    (c.loop-reply.invariant.0, subst (λ (t : List (List ℕ)). EachTells c.loop-reply.invariant.0 t) (take_all c.loop-reply.reply-index (map (λ (r : Vec ℕ Global). r.items) c.args.replies.now) past) c.loop-reply.invariant.1, c.loop-reply.invariant.2)
