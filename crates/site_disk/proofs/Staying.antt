-- What a disk of one kind keeps the other's type keeps.
use Rattle.std.specs.Prelude.{◌≡◌, Bool, IsTrue, IsErr, Result}
use Rattle.std.proofs.Common.{sym, subst}
use Rattle.sqlite_disk.specs.declared.Disk.{Ghosts}
use Rattle.sqlite_disk.specs.Disk.{StaysFrozen}
use Rattle.site_disk.specs.declared.site_disk.SiteDisk.{SiteDisk}
use Rattle.site_disk.specs.declared.site_disk.SiteDisk.TheVariants.{Usual, Wary}
use Rattle.site_disk.specs.Kind.{by_kind, holds_by_kind}

module _ {A B : Type 0} (g : Ghosts A) (h : Ghosts B) where
  abbrev pub is_frozen : SiteDisk A B → Bool
  is_frozen = by_kind g.is_frozen h.is_frozen

  abbrev pub Stays : SiteDisk A B → SiteDisk A B → Type 0
  Stays = StaysFrozen (by_kind g.seen h.seen) (holds_by_kind g.may_leave h.may_leave) (by_kind g.is_clean h.is_clean) is_frozen

  pub usual_stays : {T E : Type 0} (r : Result T E) (now : SiteDisk A B) (disk new : A) → now ≡ Usual disk
      → (IsTrue (g.is_frozen disk) → IsErr r × StaysFrozen g.seen g.may_leave g.is_clean g.is_frozen disk new)
      → IsTrue (is_frozen now) → IsErr r × Stays now (Usual new)
  usual_stays r now disk new same law = subst (λ was. IsTrue (is_frozen was) → IsErr r × Stays was (Usual new)) (sym same) (λ frozen. let (err, s) = law frozen in
      (err, record { frozen = s.frozen; same = s.same; clean = s.clean; no_more = s.no_more; no_fewer = s.no_fewer }))

  pub wary_stays : {T E : Type 0} (r : Result T E) (now : SiteDisk A B) (disk new : B) → now ≡ Wary disk
      → (IsTrue (h.is_frozen disk) → IsErr r × StaysFrozen h.seen h.may_leave h.is_clean h.is_frozen disk new)
      → IsTrue (is_frozen now) → IsErr r × Stays now (Wary new)
  wary_stays r now disk new same law = subst (λ was. IsTrue (is_frozen was) → IsErr r × Stays was (Wary new)) (sym same) (λ frozen. let (err, s) = law frozen in
      (err, record { frozen = s.frozen; same = s.same; clean = s.clean; no_more = s.no_more; no_fewer = s.no_fewer }))
