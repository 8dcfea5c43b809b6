-- What a host is asked to compute, and what it answered.
use Rattle.std.specs.Prelude.{◌≡◌, ◌≢◌, ℕ, ◌+◌, ◌==◌, List, length, map, find, Bool, ◌&&◌, Option, Some, None, option_map, codes, Vec}
use Rattle.std.specs.Global.{Global}
use Rattle.std.specs.Str.{bytes_eq}
use Rattle.pin_protocols.specs.declared.ask.Ask.{Ask}
use Rattle.pin_protocols.specs.declared.ask.Operation.{Operation}
use Rattle.pin_protocols.specs.declared.ask.Operation.TheVariants as operations
use Rattle.pin_protocols.specs.declared.answers.Answers.{Answers}
use Rattle.pin_protocols.specs.declared.stop.Stop.{Stop}
use Rattle.pin_protocols.specs.declared.stop.Stop.TheVariants as stops

pub record Asked : Type 0 where
  pub operation : Operation
  pub key : List ℕ
  pub iv : List ℕ
  pub text : List ℕ

abbrev pub asked : Operation → List ℕ → List ℕ → List ℕ → Asked
asked operation key iv text = record { operation = operation; key = key; iv = iv; text = text }

abbrev pub ask_view : Ask → Asked
ask_view a = asked a.operation a.key.items a.iv.items a.text.items

abbrev pub listed : List (Ask × Vec ℕ Global) → List (Asked × List ℕ)
listed es = map (λ e. (ask_view e.0, e.1.items)) es

abbrev pub entries : Answers → List (Asked × List ℕ)
entries a = listed a.answers.items

abbrev pub place : Operation → ℕ
place operations.Agree = 0
place operations.Derive = 1
place operations.Seal = 2
place operations.Encrypt = 3
place operations.Decrypt = 4
place operations.Authenticate = 5

-- an operation's name, in lines
abbrev pub operation_name : Operation → List ℕ
operation_name operations.Agree = codes "agree"
operation_name operations.Derive = codes "derive"
operation_name operations.Seal = codes "seal"
operation_name operations.Encrypt = codes "encrypt"
operation_name operations.Decrypt = codes "decrypt"
operation_name operations.Authenticate = codes "authenticate"

abbrev pub is_asked : Asked → Asked → Bool
is_asked a b = ((place b.operation == place a.operation) && bytes_eq b.key a.key) && bytes_eq b.iv a.iv && bytes_eq b.text a.text

-- what the host answered to this, the first time
abbrev pub answer_of : List (Asked × List ℕ) → Asked → Option (List ℕ)
answer_of es a = option_map (λ e. e.1) (find (λ e. is_asked a e.0) es)

-- how many bytes an answer has, to a text of this many
abbrev pub answer_size : Operation → ℕ → ℕ
answer_size operations.Agree n = 96
answer_size operations.Derive n = 32
answer_size operations.Seal n = 16 + n
answer_size operations.Encrypt n = n
answer_size operations.Decrypt n = n
answer_size operations.Authenticate n = 32

-- the host answered this, and it has the size that was asked for
abbrev pub Answered : List (Asked × List ℕ) → Asked → List ℕ → Type 0
Answered es a b = (answer_of es a ≡ Some b) × (length b ≡ answer_size a.operation (length a.text))

-- a call stops: it asks for one of these, to which there is no answer yet; or an answer to one has another size
abbrev pub Stops : List (Asked × List ℕ) → (Asked → Type 0) → Stop → Type 0
Stops es P stops.Memory = Unit {0}
Stops es P (stops.Asks a) = P (ask_view a) × (answer_of es (ask_view a) ≡ None)
Stops es P stops.BadAnswer = (a : Asked) × P a × (b : List ℕ) × (answer_of es a ≡ Some b) × (length b ≢ answer_size a.operation (length a.text))
Stops es P _ = ⊥
