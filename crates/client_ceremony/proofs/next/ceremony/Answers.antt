-- What is owed of `ceremony`.
use Rattle.client_ceremony.proofs.Stages.{first_halts, then_halts}
use Rattle.client_ceremony.specs.Ceremonies.{HaltsAt}
use Rattle.client_ceremony.specs.Facts.{facts}
use Rattle.client_ceremony.specs.Pieces.{OrMemory}
use Rattle.client_ceremony.specs.declared.wish.Wish.{Wish}
use Rattle.ctap_open_replies.specs.ReplyView.{info_view}
use Rattle.std.proofs.Common.{subst, sym}
use Rattle.client_ceremony.proofs.next.ceremony.Goals as goal

pub returns-in-Err : goal.returns-in-Err
returns-in-Err c =
    first_halts c.in-Err.ensures.halts

pub returns-in-Creates : goal.returns-in-Creates
returns-in-Creates c =
    subst (λ (w : Wish). OrMemory (HaltsAt w (facts c.args.known.now)) c.registration.result) (sym c.in-Creates.is) (then_halts (info_view c.in-Ok.info) c.in-Ok.ensures.info c.registration.ensures)

pub returns-in-Asserts : goal.returns-in-Asserts
returns-in-Asserts c =
    subst (λ (w : Wish). OrMemory (HaltsAt w (facts c.args.known.now)) c.sign_in.result) (sym c.in-Asserts.is) (then_halts (info_view c.in-Ok.info) c.in-Ok.ensures.info c.sign_in.ensures)

pub returns-in-SetsPin : goal.returns-in-SetsPin
returns-in-SetsPin c =
    subst (λ (w : Wish). OrMemory (HaltsAt w (facts c.args.known.now)) c.first_pin.result) (sym c.in-SetsPin.is) (then_halts (info_view c.in-Ok.info) c.in-Ok.ensures.info c.first_pin.ensures)

pub returns : goal.returns
returns c =
    subst (λ (w : Wish). OrMemory (HaltsAt w (facts c.args.known.now)) c.another_pin.result) (sym c.in-ChangesPin.is) (then_halts (info_view c.in-Ok.info) c.in-Ok.ensures.info c.another_pin.ensures)
