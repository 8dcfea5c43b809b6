-- The tags that certificates have: X.680, 8.6; RFC 5280, appendix A.
use Rattle.std.specs.Prelude.{ℕ, Bool, true, false}
use Rattle.der.specs.declared.tag.Class.TheVariants as classes
use Rattle.der.specs.declared.tag.Tag.{Tag}

abbrev pub universal : Bool → ℕ → Tag
universal constructed number = record { class = classes.Universal; constructed = constructed; number = number }

abbrev pub context : Bool → ℕ → Tag
context constructed number = record { class = classes.ContextSpecific; constructed = constructed; number = number }

abbrev pub BOOLEAN : Tag
BOOLEAN = universal false 1

abbrev pub INTEGER : Tag
INTEGER = universal false 2

abbrev pub BIT_STRING : Tag
BIT_STRING = universal false 3

abbrev pub OCTET_STRING : Tag
OCTET_STRING = universal false 4

abbrev pub NULL : Tag
NULL = universal false 5

abbrev pub OBJECT_IDENTIFIER : Tag
OBJECT_IDENTIFIER = universal false 6

abbrev pub SEQUENCE : Tag
SEQUENCE = universal true 16

abbrev pub SET : Tag
SET = universal true 17

abbrev pub UTC_TIME : Tag
UTC_TIME = universal false 23

abbrev pub GENERALIZED_TIME : Tag
GENERALIZED_TIME = universal false 24
