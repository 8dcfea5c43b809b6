-- What is owed of `put_head`.
use Rattle.std.proofs.Common.{◌+◌, ◌*◌, [], ◌∷◌, ◌++◌, sym, ap, ◌∙◌, arith}
use Rattle.ccbor.proofs.Numbers.{head_tiny, head_8, head_16, head_32, head_64, one_byte_is}
use Rattle.ccbor.proofs.Appended.{ends_with}
use Rattle.ccbor.proofs.head.put_head.Goals as goal

pub returns-in_ok-push-clause-ok : goal.returns-in_ok-push-clause-ok
returns-in_ok-push-clause-ok c = rw (head_tiny c.args.major c.args.argument (omega arith)) c.in_ok-push.ensures.items

pub returns-in_ok-push-3-clause-ok : goal.returns-in_ok-push-3-clause-ok
returns-in_ok-push-3-clause-ok c =
    ends_with _ _ _ (32 * c.args.major + 24) (c.args.argument ∷ []) _ c.in_ok-push-2.ensures.items c.in_ok-push-3.ensures.items
    (head_8 c.args.major c.args.argument (omega arith) (omega arith) ∙ ap (λ l. (32 * c.args.major + 24) ∷ l) (one_byte_is c.args.argument (omega arith)))

pub returns-in_ok-extend_from_slice-clause-ok : goal.returns-in_ok-extend_from_slice-clause-ok
returns-in_ok-extend_from_slice-clause-ok c =
    c.in_ok-extend_from_slice.ensures.items
    ∙ ap (λ l. c.args.out.now.items ++ (32 * c.args.major + 25) ∷ (l ++ [])) c.write_u16.ensures
    ∙ ap (λ l. c.args.out.now.items ++ l) (sym (head_16 c.args.major c.args.argument (omega arith) (omega arith)))

pub returns-in_ok-extend_from_slice-2-clause-ok : goal.returns-in_ok-extend_from_slice-2-clause-ok
returns-in_ok-extend_from_slice-2-clause-ok c =
    c.in_ok-extend_from_slice-2.ensures.items
    ∙ ap (λ l. c.args.out.now.items ++ (32 * c.args.major + 26) ∷ (l ++ [])) c.write_u32.ensures
    ∙ ap (λ l. c.args.out.now.items ++ l) (sym (head_32 c.args.major c.args.argument (omega arith) (omega arith)))

pub returns-in_ok-extend_from_slice-3-clause-ok : goal.returns-in_ok-extend_from_slice-3-clause-ok
returns-in_ok-extend_from_slice-3-clause-ok c =
    c.in_ok-extend_from_slice-3.ensures.items
    ∙ ap (λ l. c.args.out.now.items ++ (32 * c.args.major + 27) ∷ (l ++ [])) c.write_u64.ensures
    ∙ ap (λ l. c.args.out.now.items ++ l) (sym (head_64 c.args.major c.args.argument (omega arith)))
