-- What is owed of `RelyingParty::expects`.
use Rattle.std.proofs.Common.{◌≡◌, Bool, true, false, not, Contains, refl, ap, subst, sym}
use Rattle.verification.specs.Records.{RelyingParty}
use Rattle.verification.proofs.party.RelyingParty.expects.Goals as goal

unbarred : (looks : Bool) → not looks ≡ false → looks ≡ true
unbarred true barred = refl
unbarred false barred = absurd cc

pub returns : goal.returns
returns c =
    let looks = c.looks_at_frames-takes_cross in (
      λ h.
          let told = c.is_serialised_for_any.ensures.0 h in
          (told.0, told.1, λ level3. told.2 (ap not (looks.ensures.1 level3)), rw (sym c.self.view_is, sym c.deref.ensures.value) told.3, told.4, told.5),
      λ t.
          let Has : RelyingParty → Type 0 = λ rp. Contains rp.origins t.0 in
          let inside : Contains c.self.inside.origins.items t.0 = subst Has (sym c.self.view_is) t.3 in
          c.is_serialised_for_any.ensures.1
          (t.0, t.1, λ barred. t.2 (looks.ensures.0 (unbarred looks.result barred)), rw c.deref.ensures.value inside, t.4, t.5),
    )
