-- What is read of bytes is the one request that they are.
use Rattle.std.proofs.Common.{◌≡◌, inl, inr, ℕ, List, ◌∷◌, Option, Some, None, option_map, refl, sym, ap, subst, ◌∙◌}
use Rattle.std.proofs.Common.{Result, Ok, Err}
use Rattle.std.specs.Prelude.{IfErr, IfOk}
use Rattle.std.proofs.lemmas.Option.{same_Some}
use Rattle.ccbor.specs.Item.{Item}
use Rattle.ccbor.specs.Canon.{Canon}
use Rattle.ccbor.proofs.Decoding.{same_item}
use Rattle.ctap_encoding.specs.Table.{Members, record_of}
use Rattle.ctap_encoding.specs.Content.{Contents}
use Rattle.ctap_open_replies.specs.Reading.{open_in}
use Rattle.ctap_open_replies.proofs.Laws.{IsExact}
use Rattle.ctap_open_replies.proofs.Telling.{is_read, is_told}
use Rattle.pin_client_messages.specs.Commands.{key_members}
use Rattle.pin_client_messages.specs.Replies.{ToldKey, key_content}
use Rattle.ctap_encoding.specs.declared.error.Error.{Error}
use Rattle.ctap_encoding.specs.declared.error.Error.TheVariants as errors
use Rattle.pin_key_messages.specs.Asking.{Asking, IsSaid, Refused, Says, TellsAsking, Untold, asked_content, asked_members}
use Rattle.pin_key_messages.specs.Pieces.{UntoldBy, content_of, asking_of as read_as}
use Rattle.pin_key_messages.specs.declared.asked.AskedMembers.{AskedMembers}
use Rattle.pin_key_messages.specs.Protected.{Flags, Protection, IsProtection, RefusedProtection, SaysProtection, TellsProtection, flag_content, flag_members}
use Rattle.pin_key_messages.specs.Protected.{protection_content, protection_members}

-- ---- of a value after a command byte

module _ {Q C : Type 0} (tells : Q → Item → Type 0) (read : Item → Option C) (content : Q → C) (is : IsExact tells read content) (command : ℕ)
    (bs rest : List ℕ) (begins : bs ≡ command ∷ rest) (v : Item) (canon : Canon v rest) where
  told_here : (r : Q) → Says command tells r bs → tells r v
  told_here r s =
      let rests : s.0 ≡ rest = let f = s.1 in let g = begins in cc in
      let other : Canon s.2 rest = subst (λ (l : List ℕ). Canon s.2 l) rests s.3 in
      subst (λ (i : Item). tells r i) (same_item s.2 v rest other canon) s.4

  pub is_said : (q : Q) → read v ≡ Some (content q) → tells q v → IsSaid command tells q bs
  is_said q e t = record {
    spelled = (rest, begins, v, canon, t);
    only = λ r s. is.one r q (same_Some (content r) (content q) (sym (is.exact r v (told_here r s)) ∙ e));
  }

-- a value that is not read tells nothing
pub untold : (ms : Members) (command : ℕ) (bs rest : List ℕ) (v : Item) → bs ≡ command ∷ rest → Canon v rest → open_in (record_of ms) v ≡ None → Untold command ms bs 0x11
untold ms command bs rest v begins canon none =
    inr (refl, (rest, begins, v, canon, λ c t. let e = sym (is_read (record_of ms) v c t) ∙ none in absurd cc))

-- ---- authenticatorClientPIN

abbrev or_zero : Option ℕ → ℕ
or_zero (Some n) = n
or_zero None = 0

abbrev key_of : Contents key_members → ToldKey
key_of c = record { kty = c.0; alg = c.1.0; crv = c.1.1.0; x = c.1.1.1.0; y = c.1.1.1.1.0 }

key_back : (o : Option ToldKey) → option_map key_of (option_map key_content o) ≡ o
key_back (Some k) = refl
key_back None = refl

abbrev asking_of : Contents asked_members → Asking
asking_of c = record {
  protocol = c.0;
  subcommand = or_zero c.1.0;
  key = option_map key_of c.1.1.0;
  param = c.1.1.1.0;
  new_pin = c.1.1.1.1.0;
  pin_hash = c.1.1.1.1.1.0;
  permissions = c.1.1.1.1.1.1.0;
  rp_id = c.1.1.1.1.1.1.1.0;
}

asking_back : (q : Asking) → asking_of (asked_content (Some q.subcommand) q) ≡ q
asking_back q = ap (λ (k : Option ToldKey). record {
  protocol = q.protocol;
  subcommand = q.subcommand;
  key = k;
  param = q.param;
  new_pin = q.new_pin;
  pin_hash = q.pin_hash;
  permissions = q.permissions;
  rp_id = q.rp_id;
}) (key_back q.key)

abbrev pub whole_content : Asking → Contents asked_members
whole_content q = asked_content (Some q.subcommand) q

pub exact_asking : IsExact TellsAsking (open_in (record_of asked_members)) whole_content
exact_asking = record {
  exact = λ q v t. is_read (record_of asked_members) v (whole_content q) t;
  one = λ q r e. sym (asking_back q) ∙ ap asking_of e ∙ asking_back r;
}

-- ---- makeCredential and getAssertion

abbrev flags_of : Contents flag_members → Flags
flags_of c = record { up = c.0; uv = c.1.0 }

flags_back : (o : Option Flags) → option_map flags_of (option_map flag_content o) ≡ o
flags_back (Some f) = refl
flags_back None = refl

abbrev protection_of : (options param protocol : ℕ) → Contents (protection_members options param protocol) → Protection
protection_of options param protocol c = record { options = option_map flags_of c.0; param = c.1.0; protocol = c.1.1.0 }

protection_back : (options param protocol : ℕ) (q : Protection) → protection_of options param protocol (protection_content options param protocol q) ≡ q
protection_back options param protocol q = ap (λ (o : Option Flags). record { options = o; param = q.param; protocol = q.protocol }) (flags_back q.options)

pub exact_protection : (options param protocol : ℕ) → IsExact (TellsProtection options param protocol)
    (open_in (record_of (protection_members options param protocol))) (protection_content options param protocol)
exact_protection options param protocol = record {
  exact = λ q v t. is_read (record_of (protection_members options param protocol)) v (protection_content options param protocol q) t;
  one = λ q r e. sym (protection_back options param protocol q) ∙ ap (protection_of options param protocol) e
      ∙ protection_back options param protocol r;
}

pub is_creation : (q : Protection) (bs rest : List ℕ) → bs ≡ 1 ∷ rest → IsSaid 1 (TellsProtection 7 8 9) q (1 ∷ rest) → IsProtection q bs
is_creation q bs rest begins s = rw begins (record { spelled = inl s.spelled; only = only }) where
  only : (r : Protection) → SaysProtection r (1 ∷ rest) → r ≡ q
  only r (inl t) = s.only r t
  only r (inr t) = let e = t.1 in absurd cc

pub is_assertion : (q : Protection) (bs rest : List ℕ) → bs ≡ 2 ∷ rest → IsSaid 2 (TellsProtection 5 6 7) q (2 ∷ rest) → IsProtection q bs
is_assertion q bs rest begins s = rw begins (record { spelled = inr s.spelled; only = only }) where
  only : (r : Protection) → SaysProtection r (2 ∷ rest) → r ≡ q
  only r (inr t) = s.only r t
  only r (inl t) = let e = t.1 in absurd cc

-- ---- what is refused

pub if_ok : {A E : Type 0} {X Y : A → Type 0} (r : Result A E) → ((a : A) → X a → Y a) → IfOk r X → IfOk r Y
if_ok (Ok a) f h = f a h
if_ok (Err e) f h = tt

pub if_err : {A E : Type 0} {X Y : E → Type 0} (r : Result A E) → ((e : E) → X e → Y e) → IfErr r X → IfErr r Y
if_err (Ok a) f h = tt
if_err (Err e) f h = f e h

pub if_err_both : {A E : Type 0} {X Y Z : E → Type 0} (r : Result A E) → ((e : E) → X e → Y e → Z e) → IfErr r X → IfErr r Y → IfErr r Z
if_err_both (Ok a) f g h = tt
if_err_both (Err e) f g h = f e g h

pub no_creation : (bs rest : List ℕ) → bs ≡ 1 ∷ rest → (e : Error) → UntoldBy 1 (protection_members 7 8 9) (1 ∷ rest) e → RefusedProtection bs e
no_creation bs rest begins (errors.Status s) u = rw begins (inr (inl u))
no_creation bs rest begins _ u = absurd u

pub no_assertion : (bs rest : List ℕ) → bs ≡ 2 ∷ rest → (e : Error) → UntoldBy 2 (protection_members 5 6 7) (2 ∷ rest) e → RefusedProtection bs e
no_assertion bs rest begins (errors.Status s) u = rw begins (inr (inr u))
no_assertion bs rest begins _ u = absurd u

pub no_subcommand : (bs rest : List ℕ) (v : Item) (m : AskedMembers) → bs ≡ 6 ∷ rest → Canon v rest → open_in (record_of asked_members) v ≡ Some (content_of m)
    → (e : Error) → e ≡ errors.Status 0x14 → m.subcommand ≡ None → Refused bs e
no_subcommand bs rest v m begins canon read e is none =
    let same : content_of m ≡ asked_content None (read_as m) = rw none refl in
    rw is (inr (inr (refl, (read_as m, (rest, begins, v, canon, is_told (record_of asked_members) v (asked_content None (read_as m)) (read ∙ ap Some same))))))
