-- What is owed of `RelyingParty::has_top_origin`.
use Rattle.std.proofs.Common.{◌≡◌, Contains, inl, inr, subst, sym}
use Rattle.verification.specs.Records.{RelyingParty}
use Rattle.verification.proofs.party.RelyingParty.has_top_origin.Goals as goal

pub returns-in-Named : goal.returns-in-Named
returns-in-Named c = (
  λ h level3. inr (
    c.in-Named.page,
    c.in-Named.is,
    rw (sym c.self.view_is, sym c.deref.ensures.value, sym c.as_str.ensures) (c.is_listed.ensures.0 h),
  ),
  λ has. elim (has (c.looks_at_frames.ensures.0 c.if-not-looks_at_frames.false)) [
    | inl un ↦ let yes = c.is_unframed.ensures.1 un in let no = c.if-is_unframed.false in absurd cc
    | inr framed ↦
        let named = c.in-Named.is in
        let is = framed.1 in
        let same : framed.0 ≡ c.in-Named.page = cc in
        let Has : RelyingParty → Type 0 = λ rp. Contains rp.top_origins framed.0 in
        let inside : Contains c.self.inside.top_origins.items framed.0 = subst Has (sym c.self.view_is) framed.2 in
        c.is_listed.ensures.1 (rw (c.deref.ensures.value, c.as_str.ensures, sym same) inside)
  ],
)
