-- What reading by a table says of a value.
use Rattle.std.proofs.Common.{◌≡◌, ◌≢◌, ℕ, Some, None, sym, ◌∙◌}
use Rattle.ccbor.specs.Item.{Item}
use Rattle.ccbor.specs.Canon.{Fits}
use Rattle.ctap_encoding.specs.Table.{Holds, gravest}
use Rattle.ctap_encoding.specs.Content.{Content, item_of}
use Rattle.ctap_encoding.specs.Reading.{read_in}
use Rattle.ctap_encoding.proofs.Tests.{clean_if_none, none_if_clean}
use Rattle.ctap_encoding.proofs.Ordered.{IsOrdered}
use Rattle.ctap_encoding.proofs.Sound.{sound}
use Rattle.ctap_encoding.proofs.Complete.{complete}
use Rattle.ctap_encoding.proofs.OneContent.{one_content}

module _ (h : Holds) (ordered : IsOrdered h) where
  -- what is read is the content of the value
  pub read_is : (x : Item) (c : Content h) → read_in h x ≡ Some c → x ≡ item_of h c
  read_is x c e = (sound h ordered x c e).0

  -- and the value has no fault
  pub read_clean : (x : Item) (c : Content h) → read_in h x ≡ Some c → gravest h x ≡ None
  read_clean x c e = none_if_clean h x (sound h ordered x c e).1

  -- a value that has no fault is read
  pub clean_read : (x : Item) (d : ℕ) → Fits d x → gravest h x ≡ None → (c : Content h) × (read_in h x ≡ Some c)
  clean_read x d fits e = complete h ordered x d fits (clean_if_none h x e)

  -- so one that is not read has a fault
  pub unread_faulty : (x : Item) (d : ℕ) → Fits d x → read_in h x ≡ None → gravest h x ≢ None
  unread_faulty x d fits none e = let c = clean_read x d fits e in let both = sym c.1 ∙ none in absurd cc

  -- a value has one content
  pub one_read : (c d : Content h) → item_of h c ≡ item_of h d → c ≡ d
  one_read c d e = one_content h ordered c d e
