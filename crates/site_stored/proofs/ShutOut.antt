-- A user whose registrations have ended.
use Rattle.std.proofs.Common.{◌≡◌, ◌<◌, ◌≤◌, ◌+◌, ℕ, List, [], ◌∷◌, Bool, true, false, cond, refl, sym, ap, ◌∙◌, subst, arith, inl, inr}
use Rattle.std.proofs.lemmas.Grind.{common_steps}
use Rattle.std.proofs.lemmas.Option.{same_Some}
use Rattle.std.specs.Prelude.{◌⊎◌, Some, None, min, nat_lt}
use Rattle.std.specs.Cmp.{nat_cmp_total}
use Rattle.std.specs.FinMap as finite
use Rattle.std.specs.FinMap.{get-insert}
use Rattle.std.specs.List.{AllByRecursion}
use Rattle.std.specs.Ordering.{nat_cmp, eq_by_cmp}
use Rattle.site_rows.specs.Endings.{Endings}
use Rattle.site_rows.specs.declared.ending.Ending.{Ending}
use Rattle.site_seal.specs.Seal.{user_number}
use Rattle.site_stored.specs.Laws.{Act, EndsUsers, ShutsOut}
use Rattle.site_stored.specs.Sessions.{Ends, IsCutOff, last_second, longest, until}

-- under a number it has to be known until this second that those below this one have ended
abbrev Stands : ℕ → ℕ → ℕ → Endings → Type 0
Stands number n over users = (e : Ending) × (finite.get users number ≡ Some e) × (n < e.said) × (over ≤ e.until)

tied : (p q : ℕ) → eq_by_cmp nat_cmp p q ≡ true → p ≡ q
tied p q e = grind (arith, common_steps, e)

itself : (n : ℕ) → eq_by_cmp nat_cmp n n ≡ true
itself n = grind (arith, common_steps)

-- a session that began before is over by then
late : (began lifetime now : ℕ) → began ≤ now → until began (min lifetime longest) ≤ until now longest
late began lifetime now before = go (nat_lt (began + min lifetime longest) last_second) refl (nat_lt (now + longest) last_second) refl
  where
    short : min lifetime longest ≤ longest
    short = omega arith

    go : (a : Bool) → nat_lt (began + min lifetime longest) last_second ≡ a → (b : Bool) → nat_lt (now + longest) last_second ≡ b
        → cond a (began + min lifetime longest) last_second ≤ cond b (now + longest) last_second
    go true t true u = let k : began + min lifetime longest ≤ now + longest = omega (arith, before, short) in k
    go true t false u = let k : began + min lifetime longest ≤ last_second = grind (arith, common_steps, t) in k
    go false t true u = let k : last_second ≤ now + longest = grind (arith, common_steps, t, before, short) in k
    go false t false u = let k : last_second ≤ last_second = omega arith in k

stands_now : (now number n over : ℕ) (ending : Ending) (before after : Endings) → Ends now number ending before after → n < ending.said → over ≤ ending.until
    → Stands number n over after
stands_now now number n over ending before after ends below long = (
  ending,
  ap (λ m. finite.get m number) ends.2 ∙ get-insert nat_cmp_total ends.0 number ending number ∙ ap (λ b. cond b (Some ending) (finite.get ends.0 number)) (itself number),
  below,
  long,
)

stands_still : (at number other n over : ℕ) (ending : Ending) (before after : Endings) → Ends at other ending before after → n < ending.said → over ≤ ending.until
    → at < over → Stands number n over before → Stands number n over after
stands_still at number other n over ending before after ends below long early was = go (eq_by_cmp nat_cmp number other) refl
  where
    found : (b : Bool) → eq_by_cmp nat_cmp number other ≡ b → finite.get after number ≡ cond b (Some ending) (finite.get ends.0 number)
    found b t = ap (λ m. finite.get m number) ends.2 ∙ get-insert nat_cmp_total ends.0 other ending number
        ∙ ap (λ b. cond b (Some ending) (finite.get ends.0 number)) t

    kept : (finite.get ends.0 number ≡ finite.get before number)
        ⊎ ((e : Ending) × (finite.get before number ≡ Some e) × (e.until ≤ at) × (finite.get ends.0 number ≡ None)) → finite.get ends.0 number ≡ Some was.0
    kept (inl same) = same ∙ was.1
    kept (inr gone) =
        let one : gone.0 ≡ was.0 = same_Some gone.0 was.0 (sym gone.1 ∙ was.1) in
        let over_by : was.0.until ≤ at = subst (λ (e : Ending). e.until ≤ at) one gone.2 in
        let standing : over ≤ was.0.until = was.3 in
        absurd (omega (arith, over_by, standing, early))

    go : (b : Bool) → eq_by_cmp nat_cmp number other ≡ b → Stands number n over after
    go true t = (ending, found true t, below, long)
    go false t = (was.0, found false t ∙ kept (ends.1 number), was.2, was.3)

pub shuts_out : (key : List ℕ) (next now : ℕ) (user : List ℕ) (before users : Endings)
    → Ends now (user_number key user) (record { said = next; until = until now longest }) before users → ShutsOut key user next now users
shuts_out key next now user before users ends acts later rp_id text given at n began lifetime e ended since is below earlier same =
    let stands = all acts users later ended since
    (stands_now now (user_number key user) n over (record { said = next; until = until now longest }) before users ends below (late began lifetime now earlier)) in
    subst (λ (u : List ℕ). IsCutOff key later n u) (sym same) (stands.0, stands.1, stands.2)
  where
    over : ℕ
    over = until began (min lifetime longest)

    all : (acts : List Act) (from to : Endings) → EndsUsers key acts from to → AllByRecursion (λ a. (next ≤ a.next) × (now ≤ a.at) × (a.at ≤ at)) acts
        → Stands (user_number key user) n over from → Stands (user_number key user) n over to
    all [] from to done since was = subst (Stands (user_number key user) n over) (sym done) was
    all (a ∷ acts) from to done since was =
        let up : next ≤ a.next = since.0.0 in
        let after : now ≤ a.at = since.0.1 in
        let so_far : a.at ≤ at = since.0.2 in
        let within : at < over = is.within in
        all acts done.0 to done.2 since.1
        (stands_still a.at (user_number key user) (user_number key a.user) n over (record { said = a.next; until = until a.at longest }) from done.0
        done.1 (omega (arith, below, up)) (late began lifetime a.at (omega (arith, earlier, after))) (omega (arith, so_far, within)) was)
