-- A member that is any map, where it is read, is a map.
use Rattle.std.proofs.Common.{◌≡◌, true, false, Option, Some, None, sym, subst}
use Rattle.std.proofs.lemmas.Option.{same_Some}
use Rattle.ccbor.specs.Item as of
use Rattle.ccbor.specs.Item.{Item, Pairs}
use Rattle.ccbor.specs.Access.{split_key}
use Rattle.ccbor.proofs.Numbers.{bind_some}
use Rattle.ctap_encoding.specs.Table.{Holds, any_map, record_of, Members, no_more, listed}
use Rattle.ctap_encoding.specs.Content.{Content, Contents}
use Rattle.ctap_encoding.specs.Reading.{maybe, take_key, read_in, members_in}

abbrev pub IsMap : (h : Holds) → Content h → Type 0
IsMap any_map x = (ps : Pairs) × (x ≡ of.map ps)
IsMap _ x = Unit {0}

abbrev pub IsMapIfThere : (h : Holds) → Option (Content h) → Type 0
IsMapIfThere h (Some x) = IsMap h x
IsMapIfThere h None = Unit {0}

-- of a record's members
abbrev pub AreMaps : (ms : Members) → Contents ms → Type 0
AreMaps no_more c = Unit {0}
AreMaps (listed k true h ms) c = IsMap h c.0 × AreMaps ms c.1
AreMaps (listed k false h ms) c = IsMapIfThere h c.0 × AreMaps ms c.1

is_map : (h : Holds) (x : Item) (c : Content h) → read_in h x ≡ Some c → IsMap h c
is_map any_map (of.map ps) c e = (ps, sym (same_Some (of.map ps) c e))
is_map any_map _ c e = absurd cc
is_map _ x c e = tt

is_map_if_there : (h : Holds) (o : Option Item) (c : Option (Content h)) → maybe (read_in h) o ≡ Some c → IsMapIfThere h c
is_map_if_there h (Some x) c e =
    let a = bind_some (read_in h x) (λ a. Some (Some a)) c e in
    subst (λ (o : Option (Content h)). IsMapIfThere h o) (same_Some (Some a.0) c a.2) (is_map h x a.0 a.1)
is_map_if_there h None c e = subst (λ (o : Option (Content h)). IsMapIfThere h o) (same_Some None c e) tt

pub members_maps : (ms : Members) (ps : Pairs) (c : Contents ms) → members_in ms ps ≡ Some c → AreMaps ms c
members_maps no_more ps c e = tt
members_maps (listed k true h ms) ps c e =
    let m = bind_some (split_key k ps) _ c e in
    let a = bind_some (read_in h m.0.0) _ c m.2 in
    let r = bind_some (members_in ms m.0.1) _ c a.2 in
    subst (λ (d : Contents (listed k true h ms)). AreMaps (listed k true h ms) d) (same_Some (a.0, r.0) c r.2)
    (is_map h m.0.0 a.0 a.1, members_maps ms m.0.1 r.0 r.1)
members_maps (listed k false h ms) ps c e =
    let a = bind_some (maybe (read_in h) (take_key k ps).0) _ c e in
    let r = bind_some (members_in ms (take_key k ps).1) _ c a.2 in
    subst (λ (d : Contents (listed k false h ms)). AreMaps (listed k false h ms) d) (same_Some (a.0, r.0) c r.2)
    (is_map_if_there h (take_key k ps).0 a.0 a.1, members_maps ms (take_key k ps).1 r.0 r.1)

pub read_maps : (ms : Members) (x : Item) (c : Contents ms) → read_in (record_of ms) x ≡ Some c → AreMaps ms c
read_maps ms (of.map ps) c e = members_maps ms ps c e
read_maps ms _ c e = absurd cc
