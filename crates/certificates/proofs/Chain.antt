-- A field that is read is encoded so, and what is encoded so is read.
use Rattle.std.proofs.Common.{◌≡◌, ℕ, ◌^◌, ◌<◌, Bool, true, false, cond, List, ◌++◌, length, Option, Some, None, Result, Ok, Err}
use Rattle.std.proofs.Common.{refl, sym, ap, subst, ◌∙◌, arith, inl, inr, ◌⊎◌}
use Rattle.std.specs.Prelude.{IfSome}
use Rattle.std.proofs.lemmas.List.{take_at, drop_at, length-append}
use Rattle.der.specs.declared.error.Error.{Error as Fault}
use Rattle.der.specs.declared.tag.Tag.{Tag}
use Rattle.der.specs.Encoding.{element, length_octets, begins_with, IsInteger}
use Rattle.der.specs.Reading.{tagged_at, optional_at, whole_at, integer_in}
use Rattle.der.proofs.Steps.{IsBytes, IsBytes-drop, IsBytes-take, IsBytes-rest}
use Rattle.der.proofs.Elements.{TakesOptional, tagged_takes, optional_takes, whole_takes, tagged_again, optional_again, optional_absent, whole_again}
use Rattle.der.proofs.Integers.{integer_takes, integer_again}
use Rattle.certificates.specs.declared.error.Error.{Error}
use Rattle.certificates.specs.Tags.{INTEGER}
use Rattle.certificates.specs.Form.{optional_octets}
use Rattle.certificates.specs.Steps.{◌>>=◌, lifted, field_at, optional_field_at, whole_field_at, integer_field_at}

-- ---- steps

pub bind_ok : {A B : Type 0} (r : Result A Error) (f : A → Result B Error) (y : B) → (r >>= f) ≡ Ok y → (x : A) × (r ≡ Ok x) × (f x ≡ Ok y)
bind_ok (Ok x) f y e = (x, refl, e)
bind_ok (Err d) f y e = absurd cc

abbrev done : {A : Type 0} → A → Result A Error
done x = Ok x

pub ok_is : {A : Type 0} (x y : A) → done x ≡ done y → x ≡ y
ok_is x y e = cc

pub chosen : {A : Type 0} (b : Bool) (x y z : A) → cond b x y ≡ z → ((b ≡ true) × (x ≡ z)) ⊎ ((b ≡ false) × (y ≡ z))
chosen true x y z e = inl (refl, e)
chosen false x y z e = inr (refl, e)

pub wanted_ok : {A : Type 0} (b : Bool) (d : Error) (r : Result A Error) (y : A) → cond b r (Err d) ≡ Ok y → (b ≡ true) × (r ≡ Ok y)
wanted_ok true d r y e = (refl, e)
wanted_ok false d r y e = absurd cc

abbrev found : {A : Type 0} → A → Result A Fault
found x = Ok x

pub lifted_ok : {A : Type 0} (r : Result A Fault) (x : A) → lifted r ≡ Ok x → r ≡ Ok x
lifted_ok (Ok y) x e = ap found (ok_is y x e)
lifted_ok (Err d) x e = absurd cc

-- ---- bytes and sizes

pub bytes_front : (x y : List ℕ) → IsBytes (x ++ y) → IsBytes x
bytes_front x y fits = subst IsBytes (take_at x y (length x) refl) (IsBytes-take (length x) (x ++ y) fits)

pub bytes_back : (x y : List ℕ) → IsBytes (x ++ y) → IsBytes y
bytes_back x y fits = subst IsBytes (drop_at x y (length x) refl) (IsBytes-drop (length x) (x ++ y) fits)

pub content_fits : (t : Tag) (content : List ℕ) → IsBytes (element t content) → IsBytes content
unfolding element
content_fits t content fits = bytes_back (length_octets (length content)) content (IsBytes-rest _ _ fits)

abbrev pub Below : List ℕ → Type 0
Below bs = length bs < 2 ^ 32

pub below_front : (x y : List ℕ) → Below (x ++ y) → Below x
below_front x y lt = omega (arith, lt, length-append x y)

pub below_back : (x y : List ℕ) → Below (x ++ y) → Below y
below_back x y lt = omega (arith, lt, length-append x y)

pub below_content : (t : Tag) (content : List ℕ) → Below (element t content) → Below content
unfolding element
below_content t content lt = omega (arith, lt, length-append (length_octets (length content)) content)

-- ---- what is read

pub record TakesField (t : Tag) (bs content rest : List ℕ) : Type 0 where
  pub parts : bs ≡ element t content ++ rest
  pub content_fits : IsBytes content
  pub rest_fits : IsBytes rest

pub field_takes : (t : Tag) (bs : List ℕ) (x : List ℕ × List ℕ) → t.number < 31 → IsBytes bs → field_at t bs ≡ Ok x → TakesField t bs x.0 x.1
field_takes t bs x lt fits e =
    let k = tagged_takes t bs x lt fits (lifted_ok (tagged_at t bs) x e) in
    record {
      parts = k.takes.parts;
      content_fits = content_fits t x.0 (bytes_front (element t x.0) x.1 (subst IsBytes k.takes.parts fits));
      rest_fits = k.takes.rest_fits;
    }

pub field_below : (t : Tag) (bs : List ℕ) (x : List ℕ × List ℕ) → t.number < 31 → IsBytes bs → field_at t bs ≡ Ok x → Below x.0
field_below t bs x lt fits e = (tagged_takes t bs x lt fits (lifted_ok (tagged_at t bs) x e)).fits.size

pub record TakesWholeField (t : Tag) (bs content : List ℕ) : Type 0 where
  pub parts : bs ≡ element t content
  pub content_fits : IsBytes content

pub whole_field_takes : (t : Tag) (bs content : List ℕ) → t.number < 31 → IsBytes bs → whole_field_at t bs ≡ Ok content → TakesWholeField t bs content
whole_field_takes t bs content lt fits e =
    let k = whole_takes t bs content lt fits (lifted_ok (whole_at t bs) content e) in
    record { parts = k.parts; content_fits = content_fits t content (subst IsBytes k.parts fits) }

pub record TakesMaybe (t : Tag) (bs : List ℕ) (o : Option (List ℕ)) (rest : List ℕ) : Type 0 where
  pub parts : bs ≡ optional_octets t o ++ rest
  pub content_fits : IfSome o IsBytes
  pub rest_fits : IsBytes rest

maybe : (t : Tag) (bs : List ℕ) (o : Option (List ℕ)) (rest : List ℕ) → IsBytes bs → TakesOptional t bs o rest → TakesMaybe t bs o rest
maybe t bs None rest fits h = record { parts = sym h.0; content_fits = tt; rest_fits = subst IsBytes (sym h.0) fits }
maybe t bs (Some content) rest fits h =
    record {
      parts = h.takes.parts;
      content_fits = content_fits t content (bytes_front (element t content) rest (subst IsBytes h.takes.parts fits));
      rest_fits = h.takes.rest_fits;
    }

pub optional_field_takes : (t : Tag) (bs : List ℕ) (x : Option (List ℕ) × List ℕ) → t.number < 31 → IsBytes bs → optional_field_at t bs ≡ Ok x
    → TakesMaybe t bs x.0 x.1
optional_field_takes t bs x lt fits e = maybe t bs x.0 x.1 fits (optional_takes t bs x lt fits (lifted_ok (optional_at t bs) x e))

pub record TakesInteger (bs content rest : List ℕ) : Type 0 where
  pub parts : bs ≡ element INTEGER content ++ rest
  pub negative : Bool
  pub is : IsInteger negative content
  pub rest_fits : IsBytes rest

pub integer_field_takes : (bs : List ℕ) (x : List ℕ × List ℕ) → IsBytes bs → integer_field_at bs ≡ Ok x → TakesInteger bs x.0 x.1
unfolding integer_field_at
integer_field_takes bs x fits e =
    let a = bind_ok (field_at INTEGER bs) (λ c. lifted (integer_in c.0) >>= λ n. done c) x e in
    let b = bind_ok (lifted (integer_in a.0.0)) (λ n. done a.0) x a.2 in
    let k = field_takes INTEGER bs a.0 (omega arith) fits a.1 in
    let is = integer_takes a.0.0 b.0 k.content_fits (lifted_ok (integer_in a.0.0) b.0 b.1) in
    subst (λ (y : List ℕ × List ℕ). TakesInteger bs y.0 y.1) (ok_is a.0 x b.2)
    (record { parts = k.parts; negative = b.0; is = is; rest_fits = k.rest_fits })

-- ---- what is encoded

pub field_again : (t : Tag) (content rest : List ℕ) → Below content → field_at t (element t content ++ rest) ≡ Ok (content, rest)
field_again t content rest lt = ap lifted (tagged_again t content rest lt)

pub whole_field_again : (t : Tag) (content : List ℕ) → Below content → whole_field_at t (element t content) ≡ Ok content
whole_field_again t content lt = ap lifted (whole_again t content lt)

pub some_again : (t : Tag) (content rest : List ℕ) → Below content → optional_field_at t (element t content ++ rest) ≡ Ok (Some content, rest)
some_again t content rest lt = ap lifted (optional_again t content rest lt)

pub none_again : (t : Tag) (bs : List ℕ) → begins_with t bs ≡ false → optional_field_at t bs ≡ Ok (None, bs)
none_again t bs e = ap lifted (optional_absent t bs e)

pub maybe_again : (t : Tag) (o : Option (List ℕ)) (rest : List ℕ) → Below (optional_octets t o) → begins_with t rest ≡ false
    → optional_field_at t (optional_octets t o ++ rest) ≡ Ok (o, rest)
maybe_again t None rest lt e = none_again t rest e
maybe_again t (Some content) rest lt e = some_again t content rest (below_content t content lt)

pub integer_field_again : (negative : Bool) (content rest : List ℕ) → Below content → IsInteger negative content
    → integer_field_at (element INTEGER content ++ rest) ≡ Ok (content, rest)
unfolding integer_field_at
integer_field_again negative content rest lt is =
    let read : integer_in content ≡ Ok negative = ap integer_in is.octets ∙ integer_again negative is.digits is.are in
    rw (field_again INTEGER content rest lt, read) refl
