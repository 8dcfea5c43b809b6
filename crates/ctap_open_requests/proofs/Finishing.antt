-- What is finished of a value is finished of the request that it is.
use Rattle.std.proofs.Common.{◌≡◌, ◌++◌, ◌+◌, ℕ, false, List, ◌∷◌, Some, None, Option, option_map, refl, sym, subst, ◌∙◌, Result, Ok, Err, IfOk, IfErr, ◌⊎◌, inl, inr}
use Rattle.std.specs.Prelude.{IsErrOf}
use Rattle.ccbor.specs.Item.{Item, Pairs, bytes, uint}
use Rattle.ccbor.specs.Canon.{Canon}
use Rattle.ctap_encoding.specs.Table.{Members, gravest, record_of}
use Rattle.ctap_encoding.specs.Building.{member_list}
use Rattle.ctap_encoding.specs.Content.{Contents, item_of, member_pair}
use Rattle.ctap_encoding.specs.declared.fault.Fault.{Fault}
use Rattle.ctap_requests.specs.Entities.{CreationFlags, creation_options_members}
use Rattle.ctap_open_replies.specs.Replies.{Info}
use Rattle.pin_client_messages.specs.Commands.{MessageOf}
use Rattle.ctap_open_requests.specs.Limits.{IsWithin, IsWritten, IsRefused, max_message}
use Rattle.pin_client_messages.proofs.Building.{onto, pushed_if_there}
use Rattle.ctap_open_requests.specs.Pieces.{Finishes, IsBeyond, with_end}
use Rattle.ctap_open_requests.specs.Requests.{Auth, options_content}
use Rattle.ctap_open_requests.specs.declared.error.RequestError.{RequestError}
use Rattle.ctap_open_requests.specs.declared.error.RequestError.TheVariants as errors

-- the value's bytes, where it has no fault
abbrev pub ValueOf : ℕ → Item → Option Fault → List ℕ → Type 0
ValueOf command v fault bs = (rest : List ℕ) × (bs ≡ command ∷ rest) × Canon v rest × (fault ≡ None)

pub not_written : {V : Type 0} (items : V → List ℕ) (max command : ℕ) (v : Item) (fault : Option Fault) (e : RequestError) → (e ≡ errors.Unfit) ⊎ (e ≡ errors.Memory)
    → (IsErrOf {T = V} {E = RequestError} (Err e) errors.Unfit → (rest : List ℕ) → Canon v rest → ⊥) → Finishes items max (ValueOf command v fault) (Err e)
not_written items max command v fault errors.Memory h u = tt
not_written items max command v fault errors.Unfit h u = λ bs s. u refl s.0 s.2
not_written items max command v fault _ h u = elim h [ inl k ↦ absurd cc | inr k ↦ absurd cc ]

module _ (command : ℕ) (ms : Members) (c : Contents ms) (v : Item) (fault : Option Fault) (is : v ≡ item_of (record_of ms) c)
    (by : fault ≡ gravest (record_of ms) v) where
  forth : (bs : List ℕ) → ValueOf command v fault bs → MessageOf command ms c bs
  forth bs s =
      (s.0, s.1, subst (λ (i : Item). Canon i s.0) is s.2, subst (λ (i : Item). gravest (record_of ms) i ≡ None) is (sym by ∙ s.3))

  back : (bs : List ℕ) → MessageOf command ms c bs → ValueOf command v fault bs
  back bs s =
      (s.0, s.1, subst (λ (i : Item). Canon i s.0) (sym is) s.2, by ∙ subst (λ (i : Item). gravest (record_of ms) i ≡ None) (sym is) s.3)

  pub of_value : {V : Type 0} (items : V → List ℕ) (max : ℕ) (r : Result V RequestError) → Finishes items max (ValueOf command v fault) r
      → Finishes items max (MessageOf command ms c) r
  of_value items max (Ok b) f = (forth (items b) f.0, f.1)
  of_value items max (Err errors.Memory) f = tt
  of_value items max (Err errors.Unfit) f = λ bs s. f bs (back bs s)
  of_value items max (Err errors.MessageTooLong) f = (f.0, forth f.0 f.1, f.2)
  of_value items max (Err errors.OptionNotOffered) f = absurd f
  of_value items max (Err errors.ListTooLong) f = absurd f
  of_value items max (Err errors.IdTooLong) f = absurd f

-- what is beyond what the key told is refused, whatever the request's bytes are
pub beyond : (info : Info) (o : CreationFlags) (ids : List (List ℕ)) (of : List ℕ → Type 0) (e : RequestError) → IsBeyond info o ids e → IsRefused info o ids of e
beyond info o ids of errors.Memory h = absurd h
beyond info o ids of errors.OptionNotOffered h = h
beyond info o ids of errors.ListTooLong h = h
beyond info o ids of errors.IdTooLong h = h
beyond info o ids of errors.Unfit h = absurd h
beyond info o ids of errors.MessageTooLong h = absurd h

module _ {V : Type 0} (items : V → List ℕ) (info : Info) (o : CreationFlags) (ids : List (List ℕ)) (of : List ℕ → Type 0) (within : IsWithin info o ids) where
  pub written : (r : Result V RequestError) → Finishes items (max_message info) of r → IfOk r (λ v. IsWritten info o ids of (items v))
  written (Ok v) f = record { within = within; spelled = f.0; short = f.1 }
  written (Err e) f = tt

  pub refused : (r : Result V RequestError) → Finishes items (max_message info) of r → IfErr r (IsRefused info o ids of)
  refused (Ok v) f = tt
  refused (Err errors.Memory) f = tt
  refused (Err errors.Unfit) f = (within, f)
  refused (Err errors.MessageTooLong) f = (within, f.0, f.1, f.2)
  refused (Err errors.OptionNotOffered) f = absurd f
  refused (Err errors.ListTooLong) f = absurd f
  refused (Err errors.IdTooLong) f = absurd f

pub same_item : (o : Option Item) → o ≡ option_map (λ x. x) o
same_item (Some x) = refl
same_item None = refl

-- the options and the proof of a token are pushed
pub pushed_end : (first second third : Item) (o : CreationFlags) (auth : Option Auth) (s t : List (Item × Item)) (ps : Pairs) → t ≡ with_end first second third o auth s
    → onto t ps ≡ onto s (member_pair false first (item_of (record_of creation_options_members)) (options_content o)
    (member_pair false second bytes (option_map (λ a. a.param) auth)
    (member_pair false third uint (option_map (λ a. a.protocol) auth) ps)))
pushed_end first second third o auth s t ps is =
    let options = s ++ member_list first (option_map (item_of (record_of creation_options_members)) (options_content o)) in
    let param = options ++ member_list second (option_map bytes (option_map (λ a. a.param) auth)) in
    pushed_if_there uint _ param t third _ ps is refl
    ∙ pushed_if_there bytes _ options param second _ _ refl refl
    ∙ pushed_if_there (item_of (record_of creation_options_members)) _ s options first _ _ refl refl
