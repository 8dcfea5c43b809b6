-- Whether a text is that of an open session for registration.
use Rattle.std.proofs.Common.{◌≡◌, ◌<◌, ◌^◌, ℕ, List, take, refl, sym, ap, subst, ◌∙◌, arith}
use Rattle.std.specs.Prelude.{Option, Some, None}
use Rattle.std.specs.Int.{w64, from_be_bytes, to_be_bytes}
use Rattle.std.proofs.lemmas.List.{take_at}
use Rattle.std.proofs.lemmas.Nat.{from_be_bytes-to_be_bytes_8}
use Rattle.verification.specs.Records.{ExpectedRegistration}
use Rattle.site_rows.specs.Endings.{Endings}
use Rattle.site_seal.specs.Seal.{Session, registration}
use Rattle.site_seal.specs.Views.{ceremony_view, session_view}
use Rattle.site_state.specs.Sessions.{challenge_of}
use Rattle.site_stored.specs.Private.{IsGivenAs, IsOpenIn, IsRegistrationIn}
use Rattle.site_stored.specs.Sessions.{IsCutOff, IsGiven, challenge_in}
use Rattle.site_stored.specs.State.{FitsColumn}
use Rattle.site_stored.specs.declared.session.Given.{Given}
use Rattle.site_stored.proofs.SessionTexts.{one_session}

one_number : (m n : ℕ) (v w : List ℕ) → m < 2 ^ 64 → n < 2 ^ 64 → challenge_of m v ≡ challenge_of n w → m ≡ n
one_number m n v w p q same =
    let front : to_be_bytes w64 m ≡ to_be_bytes w64 n = sym (take_at (to_be_bytes w64 m) v 8 refl) ∙ ap (take 8) same ∙ take_at (to_be_bytes w64 n) w 8 refl in
    sym (from_be_bytes-to_be_bytes_8 m p) ∙ ap (from_be_bytes w64) front ∙ from_be_bytes-to_be_bytes_8 n q

-- a text is that of a session of one number
same_number : (key rp_id : List ℕ) (next now : ℕ) (text : List ℕ) (m n : ℕ) (x y : Session) → FitsColumn next
    → IsGiven key rp_id next now text m x → IsGiven key rp_id next now text n y → m ≡ n
same_number key rp_id next now text m n x y fits a b =
    let below = a.given in
    let under = b.given in
    one_number m n a.number.0 b.number.0 (omega arith) (omega arith)
    (sym a.number.1 ∙ ap (λ (s : Session). challenge_in s.ceremony) (one_session key rp_id next now now text m n x y a b) ∙ b.number.1)

-- where the text is not that of an open session, it is not that of one for registration
pub none_open : (key rp_id : List ℕ) (next : ℕ) (ended users : Endings) (now : ℕ) (text : List ℕ) (given : Option Given) → given ≡ None
    → IsOpenIn key rp_id next ended now text given → IsRegistrationIn key rp_id next ended users now text None
none_open key rp_id next ended users now text None none is = λ n ends e given going stays. is n (record { ends = ends; ceremony = registration e }) given going
none_open key rp_id next ended users now text (Some g) none is = absurd cc

the_expected : (e f : ExpectedRegistration) → registration e ≡ registration f → e ≡ f
the_expected e f same = cc

-- where the registrations of its user have ended, neither
pub cut_off : (key rp_id : List ℕ) (next : ℕ) (ended users : Endings) (now : ℕ) (text : List ℕ) (given : Option Given) (g : Given) (e : ExpectedRegistration)
    → FitsColumn next → given ≡ Some g → IsOpenIn key rp_id next ended now text given → ceremony_view g.opened.ceremony ≡ registration e
    → IsCutOff key users g.number e.user → IsRegistrationIn key rp_id next ended users now text None
cut_off key rp_id next ended users now text given g e fits some is for ended_before = λ n ends f other going stays.
    let first : IsGivenAs key rp_id next now text g = (subst (IsOpenIn key rp_id next ended now text) some is).0 in
    let y : Session = record { ends = ends; ceremony = registration f } in
    let ceremony : ceremony_view g.opened.ceremony ≡ registration f =
    ap (λ (s : Session). s.ceremony) (one_session key rp_id next now now text g.number n (session_view g.opened) y first other) in
    let number : g.number ≡ n = same_number key rp_id next now text g.number n (session_view g.opened) y fits first other in
    let user : e.user ≡ f.user = ap (λ (x : ExpectedRegistration). x.user) (the_expected e f (sym for ∙ ceremony)) in
    stays (subst (λ (u : List ℕ). IsCutOff key users n u) user (subst (λ (k : ℕ). IsCutOff key users k e.user) number ended_before))
