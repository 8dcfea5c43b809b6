-- What is granted, and by which token.
use Rattle.std.proofs.Common.{◌≡◌, ◌≢◌, ◌⊎◌, ℕ, List, Bool, true, false, eqb, Some, None, Ok, refl, sym, ap, subst, ◌∙◌, inl, inr}
use Rattle.std.specs.Prelude.{Option, bit_and, not}
use Rattle.std.proofs.lemmas.Bool.{eqb-false, eqb-true}
use Rattle.std.proofs.lemmas.Slice.Eq.{bytes_eq-Decides}
use Rattle.pin_protocols.specs.declared.protocol.Protocol.{Protocol}
use Rattle.pin_protocols.specs.Asks.{Asked}
use Rattle.pin_protocols.specs.Protocols.{Authenticates, number}
use Rattle.key_pin.specs.Grants.{Claim, granted, is_for, permits, token_of}
use Rattle.key_pin.specs.Host.{refused, verified}
use Rattle.key_pin.specs.State.{PinToken}
use Rattle.key_pin.specs.Steps.{needed, known_protocol}
use Rattle.key_pin.proofs.Binds.{bind_ok}
use Rattle.key_pin.proofs.Brought.{both, if_done, known_is, needed_is, one_number, verified_is}

not_true : (b : Bool) → not b ≡ true → b ≡ false
not_true true e = absurd cc
not_true false e = refl

in_use : (protocol : Protocol) (o : Option PinToken) (t : PinToken) → token_of protocol o ≡ Ok t → (o ≡ Some t) × (t.protocol ≡ protocol)
in_use protocol None t e = absurd cc
in_use protocol (Some x) t e =
    let k = if_done (eqb (number x.protocol) (number protocol)) (refused 0x33) (Ok x) t e in
    let same : x ≡ t = cc in
    (ap (λ (y : PinToken). Some y) same, ap (λ (y : PinToken). y.protocol) (sym same) ∙ one_number x.protocol protocol (eqb-true (number x.protocol) (number protocol) k.0))

own_rp_id : (rp_id : List ℕ) (o : Option (List ℕ)) → is_for rp_id o ≡ true → (o ≡ None) ⊎ (o ≡ Some rp_id)
own_rp_id rp_id None e = inl refl
own_rp_id rp_id (Some own) e = inr (ap (λ (x : List ℕ). Some x) ((bytes_eq-Decides own rp_id).0 e))

pub record Granting (es : List (Asked × List ℕ)) (c : Claim) (token : Option PinToken) : Type 0 where
  pub by : PinToken
  pub in_use : token ≡ Some by
  pub protocol : c.protocol ≡ Some (number by.protocol)
  pub authentic : Authenticates es by.protocol by.bytes c.client_data_hash c.param
  pub permission : bit_and by.permissions c.permission ≢ 0
  pub rp_id : (by.rp_id ≡ None) ⊎ (by.rp_id ≡ Some c.rp_id)

pub granting : (es : List (Asked × List ℕ)) (c : Claim) (token : Option PinToken) → granted es c token ≡ Ok tt → Granting es c token
unfolding granted
granting es c token e =
    let n = bind_ok (needed c.protocol) _ tt e in
    let p = bind_ok (known_protocol n.0) _ tt n.2 in
    let t = bind_ok (token_of p.0 token) _ tt p.2 in
    let v = bind_ok (verified es p.0 t.0.bytes c.client_data_hash c.param) _ tt t.2 in
    let used = in_use p.0 token t.0 t.1 in
    let fits = if_done (permits t.0 c) (refused 0x33) (Ok tt) tt v.2 in
    let parts = both (not (eqb (bit_and t.0.permissions c.permission) 0)) (is_for c.rp_id t.0.rp_id) fits.0 in
    let named : c.protocol ≡ Some (number p.0) = subst (λ (m : ℕ). c.protocol ≡ Some m) (known_is n.0 p.0 p.1) (needed_is c.protocol n.0 n.1) in
    record {
      by = t.0;
      in_use = used.0;
      protocol = subst (λ (q : Protocol). c.protocol ≡ Some (number q)) (sym used.1) named;
      authentic = subst (λ (q : Protocol). Authenticates es q t.0.bytes c.client_data_hash c.param) (sym used.1)
          (verified_is es p.0 t.0.bytes c.client_data_hash c.param v.1);
      permission = eqb-false _ _ (not_true _ parts.0);
      rp_id = own_rp_id c.rp_id t.0.rp_id parts.1;
    }
