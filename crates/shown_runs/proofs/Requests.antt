-- The bytes of the requests, whatever the client data are.
use Rattle.std.proofs.Common.{◌≡◌, ℕ, List, [], ◌∷◌, Option, None, length, refl, arith, rules, IsUtf8}
use Rattle.sha2.specs.Sha256.{sha256}
use Rattle.sha2.proofs.Facts256.{length-sha256}
use Rattle.ccbor.specs.Item.{Item, Pairs}
use Rattle.ccbor.specs.Canon.{Fits, before, head, spelling}
use Rattle.ctap_replies.proofs.Texts.{plain}
use Rattle.ctap_requests.specs.Requests.{RequestMessage, RequestOf, assertion_item, creation_item, get_assertion, get_info, get_next_assertion, make_credential, reset}
use Rattle.ctap_requests.specs.Status.{IsRequest}
use Rattle.ctap_requests.proofs.Laws.{assertion_is, creation_is}
use Rattle.client.specs.Asked.{assertion_of, creation_of}
use Rattle.shown_runs.proofs.Values.{by_any, by_one, registering}

abbrev creation_value : List ℕ → ℕ → List ℕ → Item
creation_value rp_id n text = creation_item (creation_of (registering rp_id n []) text) None

abbrev any_value : List ℕ → List ℕ → Item
any_value rp_id text = assertion_item (assertion_of (by_any rp_id []) text) None

abbrev one_value : List ℕ → ℕ → List ℕ → Item
one_value rp_id n text = assertion_item (assertion_of (by_one rp_id n []) text) None

abbrev pub creating : List ℕ → ℕ → List ℕ → List ℕ
creating rp_id n text = 1 ∷ spelling (creation_value rp_id n text)

abbrev pub asking_any : List ℕ → List ℕ → List ℕ
asking_any rp_id text = 2 ∷ spelling (any_value rp_id text)

abbrev pub asking_one : List ℕ → ℕ → List ℕ → List ℕ
asking_one rp_id n text = 2 ∷ spelling (one_value rp_id n text)

module _ (rp_id : List ℕ) (rp_size : length rp_id ≡ 11) (rp_text : IsUtf8 rp_id) (text : List ℕ) where
  size : length (sha256 text) ≡ 32
  size = length-sha256 text

  creation_fits : (n : ℕ) → Fits 4 (creation_value rp_id n text)
  unfolding head before
  creation_fits n = search (rules, arith, size, plain, rp_size, rp_text)

  pub creation_request : (n : ℕ) → IsRequest (make_credential (creation_of (registering rp_id n []) text)) (creating rp_id n text)
  creation_request n =
      creation_is (creation_value rp_id n text) (spelling (creation_value rp_id n text)) (creation_fits n, refl) (creation_of (registering rp_id n []) text)
      (rw (size, rp_size) refl)

  any_fits : Fits 4 (any_value rp_id text)
  unfolding head before
  any_fits = search (rules, arith, size, rp_size, rp_text)

  pub any_request : IsRequest (get_assertion (assertion_of (by_any rp_id []) text)) (asking_any rp_id text)
  any_request =
      assertion_is (any_value rp_id text) (spelling (any_value rp_id text)) (any_fits, refl) (assertion_of (by_any rp_id []) text) (rw (size, rp_size) refl)

  one_fits : (n : ℕ) → Fits 4 (one_value rp_id n text)
  unfolding head before
  one_fits n = search (rules, arith, size, plain, rp_size, rp_text)

  pub one_request : (n : ℕ) → IsRequest (get_assertion (assertion_of (by_one rp_id n []) text)) (asking_one rp_id n text)
  one_request n =
      assertion_is (one_value rp_id n text) (spelling (one_value rp_id n text)) (one_fits n, refl) (assertion_of (by_one rp_id n []) text)
      (rw (size, rp_size) refl)

-- ---- requests without a map

next_only : (q : RequestMessage) (x : Option Pairs) → RequestOf q x (8 ∷ []) → q ≡ get_next_assertion
next_only (make_credential q) x is = let e = is.1 in absurd cc
next_only (get_assertion q) x is = let e = is.1 in absurd cc
next_only get_next_assertion x is = refl
next_only get_info x is = absurd cc
next_only reset x is = absurd cc

pub next_request : IsRequest get_next_assertion (8 ∷ [])
next_request = record {
  spelled = (None, refl);
  only = next_only;
  clean = (
    λ a. absurd cc,
    (
      λ a. a.1 refl,
      (
        λ a. let no = a.0 in absurd cc,
        (
          λ a. let no = a.0 in absurd cc,
          (λ a. let no = a.0 in absurd cc, (λ a. let no = a.0 in absurd cc, (λ a. let no = a.0 in absurd cc, (λ a. let no = a.0 in absurd cc, tt)))),
        ),
      ),
    ),
  );
}

reset_only : (q : RequestMessage) (x : Option Pairs) → RequestOf q x (7 ∷ []) → q ≡ reset
reset_only (make_credential q) x is = let e = is.1 in absurd cc
reset_only (get_assertion q) x is = let e = is.1 in absurd cc
reset_only get_next_assertion x is = absurd cc
reset_only get_info x is = absurd cc
reset_only reset x is = refl

pub reset_request : IsRequest reset (7 ∷ [])
reset_request = record {
  spelled = (None, refl);
  only = reset_only;
  clean = (
    λ a. absurd cc,
    (
      λ a. a.1 refl,
      (
        λ a. let no = a.0 in absurd cc,
        (
          λ a. let no = a.0 in absurd cc,
          (λ a. let no = a.0 in absurd cc, (λ a. let no = a.0 in absurd cc, (λ a. let no = a.0 in absurd cc, (λ a. let no = a.0 in absurd cc, tt)))),
        ),
      ),
    ),
  );
}
