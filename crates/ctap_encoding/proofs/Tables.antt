-- What a `Holds` of the code stands for, variant by variant.
use Rattle.std.proofs.Common.{◌≡◌, ℕ, List, Bool, Bor, rules}
use Rattle.ccbor.specs.declared.value.MapKey.{MapKey}
use Rattle.ctap_encoding.specs.declared.fault.Fault.{Fault}
use Rattle.ctap_encoding.specs.Table.{a_number, some_bytes, a_text, a_truth, any_map, that_text, unsigned, truths, list_of, record_of, not_empty, sized}
use Rattle.ctap_encoding.specs.TableView.{holds_view, members_view}
use Rattle.ctap_encoding.specs.declared.table.Holds.{Number, Bytes, Text, Truth, AnyMap, Truths, the_lemmas}
use Rattle.ctap_encoding.specs.declared.table.Holds as table
use Rattle.ctap_encoding.specs.declared.table.Holds.{Holds as Code}

pub holds-Bytes : holds_view Bytes ≡ some_bytes
holds-Bytes = search (rules, the_lemmas)

pub holds-Text : holds_view Text ≡ a_text
holds-Text = search (rules, the_lemmas)

pub holds-Truth : holds_view Truth ≡ a_truth
holds-Truth = search (rules, the_lemmas)

pub holds-AnyMap : holds_view AnyMap ≡ any_map
holds-AnyMap = search (rules, the_lemmas)

pub holds-List : (k : Bor Code) → holds_view (table.List k) ≡ list_of (holds_view k.now)
holds-List k = search (rules, the_lemmas)

pub holds-Record : (ms : Bor (List (MapKey × Bool × Code))) → holds_view (table.Record ms) ≡ record_of (members_view ms.now)
holds-Record ms = search (rules, the_lemmas)

pub holds-Sized : (low high : ℕ) (fault : Fault) (k : Bor Code) → holds_view (table.Sized low high fault k) ≡ sized low high fault (holds_view k.now)
holds-Sized low high fault k = search (rules, the_lemmas)

pub holds-Number : holds_view Number ≡ a_number
holds-Number = search (rules, the_lemmas)

pub holds-NotEmpty : (fault : Fault) (k : Bor Code) → holds_view (table.NotEmpty fault k) ≡ not_empty fault (holds_view k.now)
holds-NotEmpty fault k = search (rules, the_lemmas)

pub holds-Truths : holds_view Truths ≡ truths
holds-Truths = search (rules, the_lemmas)

pub holds-ThatText : (t : Bor (List ℕ)) → holds_view (table.ThatText t) ≡ that_text t.now
holds-ThatText t = search (rules, the_lemmas)

pub holds-Unsigned : (low : ℕ) → holds_view (table.Unsigned low) ≡ unsigned low
holds-Unsigned low = search (rules, the_lemmas)

-- all of them
pub ruleset tables = (
  holds-Bytes,
  holds-Text,
  holds-Truth,
  holds-AnyMap,
  holds-List,
  holds-Record,
  holds-Sized,
  holds-Number,
  holds-NotEmpty,
  holds-Truths,
  holds-ThatText,
  holds-Unsigned,
)
