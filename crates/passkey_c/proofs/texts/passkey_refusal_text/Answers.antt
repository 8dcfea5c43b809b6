-- What is owed of `passkey_refusal_text`.
use Rattle.std.proofs.Common.{◌<◌, ◌∙◌, ℕ, List, length, rules, subst, sym}
use Rattle.passkey_c.proofs.OneText.{one_text}
use Rattle.passkey_c.proofs.texts.passkey_refusal_text.Goals as goal

pub returns-in_default : goal.returns-in_default
returns-in_default c = record {
  written = search rules;
  none = λ _ text is. absurd (c.in_default.ensures text is);
  untouched = search rules;
}

pub returns-then-room-bytes : goal.returns-then-room-bytes
returns-then-room-bytes c = record {
  written = search rules;
  none = λ _ text is.
      let same = one_text _ _ text c.in-Some.text.now is c.in-Some.ensures in
      subst (λ (l : List ℕ). length c.args.room.now < length l) (c.as_bytes-bytes.ensures.value ∙ sym same) c.if-room-bytes.true;
  untouched = search rules;
}
