-- What is owed of `SiteStore::commit`.
use Rattle.std.proofs.Common.{◌≡◌, ◌⊎◌, inl, inr, false, IsTrue}
use Rattle.sqlite_trees.specs.View.{IsClean, View}
use Rattle.site_stored.proofs.Sound.{clean_if_sound}
use Rattle.site_stored.proofs.site_store.SiteStore.commit.Goals as goal

now_or_before : (X Y : Type 0) (v : View) → (v.is_clean ≡ false → v.is_open ≡ false) → (v.is_open ≡ false → IsTrue v.is_broken)
    → ((v.is_broken ≡ false) × X) ⊎ Y → (IsClean v × X) ⊎ Y
now_or_before X Y v dirty shut (inl now) = inl (clean_if_sound v dirty shut now.0, now.1)
now_or_before X Y v dirty shut (inr before) = inr before

pub returns-clause-crash : goal.returns-clause-crash
returns-clause-crash g c db r =
    let was = c.args.self.now.store in
    now_or_before _ _ (g.S.Store.view was) (g.met.S.Store.shut_if_dirty was) (g.met.S.Store.broken_if_shut was) (c.commit.ensures.crash db r)

pub returns-in_err-commit-clause-crash : goal.returns-in_err-commit-clause-crash
returns-in_err-commit-clause-crash g c db r =
    let was = c.args.self.now.store in
    now_or_before _ _ (g.S.Store.view was) (g.met.S.Store.shut_if_dirty was) (g.met.S.Store.broken_if_shut was) (c.commit.ensures.crash db r)
