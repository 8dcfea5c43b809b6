-- The names of acts, and of their members.
use Rattle.std.specs.Prelude.{ℕ, List, [], ◌∷◌, codes}
use Rattle.client_acts.specs.declared.acts.Kind.{Kind}
use Rattle.client_acts.specs.declared.acts.Kind.TheVariants.{Register, SignIn, Information, SetPin, ChangePin, Packet, Pin, Computed, Choose, Cancel}

abbrev pub kind_name : Kind → List ℕ
kind_name Register = codes "register"
kind_name SignIn = codes "sign_in"
kind_name Information = codes "information"
kind_name SetPin = codes "set_pin"
kind_name ChangePin = codes "change_pin"
kind_name Packet = codes "packet"
kind_name Pin = codes "pin"
kind_name Computed = codes "computed"
kind_name Choose = codes "choose"
kind_name Cancel = codes "cancel"

-- the names of the members of an act's lines, beside `id` and `act`
abbrev pub names_for : Kind → List (List ℕ)
names_for Register = codes "origin" ∷ codes "options" ∷ codes "nonce" ∷ codes "built_in" ∷ []
names_for SignIn = codes "origin" ∷ codes "options" ∷ codes "nonce" ∷ codes "built_in" ∷ []
names_for Information = codes "nonce" ∷ []
names_for SetPin = codes "new_pin" ∷ codes "nonce" ∷ []
names_for ChangePin = codes "new_pin" ∷ codes "nonce" ∷ []
names_for Packet = codes "packet" ∷ []
names_for Pin = codes "pin" ∷ []
names_for Computed = codes "bytes" ∷ []
names_for Choose = codes "number" ∷ []
names_for Cancel = []
