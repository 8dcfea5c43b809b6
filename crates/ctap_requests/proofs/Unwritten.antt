-- What isn't written has no bytes that no rank applies to.
use Rattle.std.proofs.Common.{◌≡◌, ◌^◌, ◌<◌, ℕ, true, false, List, [], ◌∷◌, map, Option, Some, None, refl, sym, subst, ◌∙◌, inl, inr, arith, Result}
use Rattle.std.proofs.Common.{Ok, Err, IfOk, IfErr, ◌⊎◌, nat_lt, ℤ, pos, negsuc}
use Rattle.std.proofs.lemmas.Bool.Decides.{nat_tests}
use Rattle.std.specs.Prelude.{IsErrOf}
use Rattle.ccbor.specs.Item.{Item}
use Rattle.ctap_encoding.specs.declared.error.Error.{Error}
use Rattle.ctap_encoding.specs.declared.error.Error.TheVariants as errors
use Rattle.ccbor.specs.Canon.{Canon, Fits, ItemsFit}
use Rattle.ccbor.specs.View.{items_of}
use Rattle.ctap_encoding.specs.Table.{gravest}
use Rattle.ctap_encoding.specs.Content.{number_item, item_of}
use Rattle.ctap_encoding.specs.Table.{record_of}
use Rattle.ctap_encoding.specs.declared.fault.Fault as map_faults
use Rattle.ctap_requests.specs.Entities.{CredentialParameters, parameters_members, parameters_content}
use Rattle.ctap_requests.specs.Requests.{CreationRequest, AssertionRequest, creation_item, assertion_item, make_credential, get_assertion, map_of, RequestOf}
use Rattle.ctap_requests.specs.Pieces.{is_number, all_numbers, Builds, Written}
use Rattle.refusal_order.proofs.Laws.{none_first}
use Rattle.ctap_requests.specs.Status.{NoStatus, ranks, has_map}
use Rattle.ctap_requests.proofs.Ranks.{fault_first, clean}
use Rattle.ctap_requests.specs.Pieces.{rank_of}

-- where no rank applies, the map has no fault
unfaulty : (command : ℕ) (rest : List ℕ) (v : Item) → has_map command ≡ true → Canon v rest → NoStatus (command ∷ rest) → gravest (map_of command) v ≡ None
unfaulty command rest v h c none = go (gravest (map_of command) v) refl where
  go : (o : Option map_faults.Fault) → gravest (map_of command) v ≡ o → o ≡ None
  go None e = refl
  go (Some f) e = absurd (none_first (λ r out applies. out applies) ranks (rank_of f) none (fault_first command rest v h c f e))

pub creation_unfit : (v : Item) (q : CreationRequest) → v ≡ creation_item q None → (gravest (map_of 1) v ≡ None → (rest : List ℕ) → Canon v rest → ⊥)
    → (bs : List ℕ) → RequestOf (make_credential q) None bs → NoStatus bs → ⊥
creation_unfit v q is never bs spelled none =
    let canon : Canon v spelled.0 = subst (λ (i : Item). Canon i spelled.0) (sym is) spelled.2 in
    never (unfaulty 1 spelled.0 v refl canon (subst (λ (l : List ℕ). NoStatus l) spelled.1 none)) spelled.0 canon

pub assertion_unfit : (v : Item) (q : AssertionRequest) → v ≡ assertion_item q None → (gravest (map_of 2) v ≡ None → (rest : List ℕ) → Canon v rest → ⊥)
    → (bs : List ℕ) → RequestOf (get_assertion q) None bs → NoStatus bs → ⊥
assertion_unfit v q is never bs spelled none =
    let canon : Canon v spelled.0 = subst (λ (i : Item). Canon i spelled.0) (sym is) spelled.2 in
    never (unfaulty 2 spelled.0 v refl canon (subst (λ (l : List ℕ). NoStatus l) spelled.1 none)) spelled.0 canon

-- ---- numbers

below : (n : ℕ) → n < 2 ^ 64 → nat_lt n (2 ^ 64) ≡ true
below n h = grind (arith, nat_tests)

number_fits : (n : ℤ) (d : ℕ) → Fits d (number_item n) → is_number n ≡ true
number_fits (pos n) d h = below n h
number_fits (negsuc n) d h = below n h

numbers_fit : (ps : List CredentialParameters) → ItemsFit 2 (items_of (map (item_of (record_of parameters_members)) (map parameters_content ps)))
    → all_numbers ps ≡ true
numbers_fit [] h = refl
numbers_fit (p ∷ ps) h = rw (number_fits p.alg 1 h.0.1.3, numbers_fit ps h.1) refl

-- a number without a head has no spelling, nor has the request
pub numbers_unfit : (q : CreationRequest) → all_numbers q.pub_key_cred_params ≡ false → (bs : List ℕ) → RequestOf (make_credential q) None bs → ⊥
numbers_unfit q out bs spelled =
    let fits = spelled.2.0 in
    let all = numbers_fit q.pub_key_cred_params fits.1.4.4.4.3.1 in
    let both = sym out ∙ all in absurd cc

pub creation_written : {V : Type 0} (items : V → List ℕ) (v : Item) (q : CreationRequest) (result : Result V Error) → v ≡ creation_item q None
    → IfOk result (λ b. (rest : List ℕ) × (items b ≡ 1 ∷ rest) × Canon v rest × (gravest (map_of 1) v ≡ None))
    → (IsErrOf result errors.Unfit → gravest (map_of 1) v ≡ None → (rest : List ℕ) → Canon v rest → ⊥)
    → IfErr result (λ e. (e ≡ errors.Unfit) ⊎ (e ≡ errors.Memory))
    → Written items (make_credential q) result
creation_written items v q (Ok b) is w u e =
    ((w.0, w.1, subst (λ (i : Item). Canon i w.0) is w.2), subst (λ (l : List ℕ). NoStatus l) (sym w.1) (clean 1 w.0 v refl w.2 refl w.3))
creation_written items v q (Err errors.Memory) is w u e = tt
creation_written items v q (Err errors.Unfit) is w u e = creation_unfit v q is (u refl)
creation_written items v q (Err _) is w u e = elim e [ inl h ↦ absurd cc | inr h ↦ absurd cc ]

pub assertion_written : {V : Type 0} (items : V → List ℕ) (v : Item) (q : AssertionRequest) (result : Result V Error) → v ≡ assertion_item q None
    → IfOk result (λ b. (rest : List ℕ) × (items b ≡ 2 ∷ rest) × Canon v rest × (gravest (map_of 2) v ≡ None))
    → (IsErrOf result errors.Unfit → gravest (map_of 2) v ≡ None → (rest : List ℕ) → Canon v rest → ⊥)
    → IfErr result (λ e. (e ≡ errors.Unfit) ⊎ (e ≡ errors.Memory))
    → Written items (get_assertion q) result
assertion_written items v q (Ok b) is w u e =
    ((w.0, w.1, subst (λ (i : Item). Canon i w.0) is w.2), subst (λ (l : List ℕ). NoStatus l) (sym w.1) (clean 2 w.0 v refl w.2 refl w.3))
assertion_written items v q (Err errors.Memory) is w u e = tt
assertion_written items v q (Err errors.Unfit) is w u e = assertion_unfit v q is (u refl)
assertion_written items v q (Err _) is w u e = elim e [ inl h ↦ absurd cc | inr h ↦ absurd cc ]

pub creation_unbuilt : {V : Type 0} (items : V → List ℕ) (q : CreationRequest) (e : Error)
    → Builds (all_numbers q.pub_key_cred_params) (creation_item q None) (Err e)
    → Written items (make_credential q) (Err e)
creation_unbuilt items q errors.Memory h = tt
creation_unbuilt items q errors.Unfit h = λ bs spelled none. numbers_unfit q h bs spelled
creation_unbuilt items q _ h = absurd h
