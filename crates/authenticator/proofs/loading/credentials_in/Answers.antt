-- What is owed of `credentials_in`.
use Rattle.std.proofs.Common.{◌≡◌, ◌<◌, ◌++◌, List, [], ◌∷◌, length, None, refl, sym, ap, ◌∙◌, subst, arith}
use Rattle.std.proofs.lemmas.List.{length-append}
use Rattle.refusal_order.proofs.Laws.{each_joined}
use Rattle.ccbor.specs.Item.{item}
use Rattle.ccbor.specs.Viewing.{shown, shown_items}
use Rattle.ccbor.proofs.AccessLemmas.{first_is, none_is}
use Rattle.authenticator.specs.Credentials.{credential_of}
use Rattle.authenticator.specs.Private.{source_in, source_shown}
use Rattle.authenticator.specs.State.{CredentialSource}
use Rattle.authenticator.specs.Saved.{IsSource}
use Rattle.authenticator.specs.Views.{credential_sources_view}
use Rattle.authenticator.proofs.SavedCredentials.{source_is, source_read, one_source}
use Rattle.authenticator.proofs.SavedMaps.{in_front, in_front-none, in_front-one_more, goes_on, goes_behind}
use Rattle.authenticator.proofs.Stored.{unique_push}
use Rattle.authenticator.proofs.loading.credentials_in.Goals as goal

pub returns-in_default-source-clause-none : goal.returns-in_default-source-clause-none
returns-in_default-source-clause-none c = λ e cs store each is.
    let before = credential_sources_view c.loop-item.credentials.items in
    let front = first_is (shown_items c.loop-item.rest) (shown c.in-Some.item) (shown_items c.in-Some.after) (sym c.in-Some.ensures.parts) in
    let met : in_front before (item (shown c.in-Some.item) (shown_items c.in-Some.after)) ≡ shown_items c.args.items =
    ap (in_front before) (sym front) ∙ c.loop-item.invariant.2 in
    let g = goes_on cs before (shown c.in-Some.item) (shown_items c.in-Some.after) c.loop-item.invariant.1 each (met ∙ is) in
    let none = c.in_default-source.is in
    let unread = sym (rw none at c.source.ensures) in
    let read = ap source_in g.map_is ∙ source_read g.source g.fits in
    let both = sym unread ∙ read in
    absurd cc

pub returns-clause-read : goal.returns-clause-read
returns-clause-read c =
    let before = credential_sources_view c.loop-item.credentials.items in
    let ended = c.in_default.is in
    let none = none_is (shown_items c.loop-item.rest) (sym (rw ended at c.split_first.ensures.parts)) in
    (c.loop-item.invariant.1, sym c.loop-item.invariant.2 ∙ ap (in_front before) none ∙ in_front-none before)

pub returns-then-not-admits-clause-none : goal.returns-then-not-admits-clause-none
returns-then-not-admits-clause-none c = λ e cs store each is.
    let before = credential_sources_view c.loop-item.credentials.items in
    let front = first_is (shown_items c.loop-item.rest) (shown c.in-Some.item) (shown_items c.in-Some.after) (sym c.in-Some.ensures.parts) in
    let met : in_front before (item (shown c.in-Some.item) (shown_items c.in-Some.after)) ≡ shown_items c.args.items =
    ap (in_front before) (sym front) ∙ c.loop-item.invariant.2 in
    let g = goes_on cs before (shown c.in-Some.item) (shown_items c.in-Some.after) c.loop-item.invariant.1 each (met ∙ is) in
    let may = goes_behind cs before (shown c.in-Some.item) store g in
    let found = source_is (shown c.in-Some.item) (source_shown c.in-Some-source.found) (sym c.in-Some-source.ensures) in
    let same = one_source g.source (source_shown c.in-Some-source.found) g.fits found.0 (sym g.map_is ∙ found.1) in
    let fits : (length before < 256) × (credential_of c.in-Some-source.found.id before ≡ None) = rw same at may in
    let slice : credential_sources_view c.deref.result.now ≡ before = ap credential_sources_view c.deref.ensures.value in
    let yes = c.admits.ensures.1
    (subst (λ (l : List CredentialSource). (length l < 256) × (credential_of c.in-Some-source.found.id l ≡ None)) (sym slice) fits) in
    let no = c.if-not-admits.true in
    absurd cc

pub loop-item-preserved : goal.loop-item-preserved
loop-item-preserved c =
    let before = credential_sources_view c.loop-item.credentials.items in
    let found = source_shown c.in-Some-source.found in
    let read = source_is (shown c.in-Some.item) found (sym c.in-Some-source.ensures) in
    let pushed : credential_sources_view c.push_copy.new.credentials.items ≡ before ++ found ∷ [] = c.in_ok-push_copy.ensures in
    let front = first_is (shown_items c.loop-item.rest) (shown c.in-Some.item) (shown_items c.in-Some.after) (sym c.in-Some.ensures.parts) in
    let slice : credential_sources_view c.deref.result.now ≡ before = ap credential_sources_view c.deref.ensures.value in
    let may : (length before < 256) × (credential_of found.id before ≡ None) =
    subst (λ (l : List CredentialSource). (length l < 256) × (credential_of found.id l ≡ None)) slice (c.if-not-admits.ensures.0 refl) in
    let room = may.0 in
    let longer = length-append before (found ∷ []) in
    rw pushed (
      (omega (arith, longer, room), unique_push before found c.loop-item.invariant.0.1 may.1),
      each_joined IsSource before (found ∷ []) c.loop-item.invariant.1 (read.0, tt),
      in_front-one_more before found (shown_items c.in-Some.after)
          ∙ ap (λ i. in_front before (item i (shown_items c.in-Some.after))) (sym read.1)
          ∙ ap (in_front before) (sym front)
          ∙ c.loop-item.invariant.2,
    )
