-- Which disk a site's is.
use Rattle.std.specs.Prelude.{ℕ, Bool, true, false, List}
use Rattle.sqlite_disk.specs.declared.calls.Calls as calls
use Rattle.sqlite_disk.specs.declared.modelled.Modelled.{Modelled}
use Rattle.sqlite_disk.specs.declared.start.Start.{Ghosts}
use Rattle.sqlite_disk.specs.Events.{replay}
use Rattle.sqlite_disk.specs.Modelled.{start_of}
use Rattle.sqlite_std_file.specs.declared.host.Host.{Host}
use Rattle.sqlite_std_file.specs.File.{file_is_usable}
use Rattle.site_disk.specs.declared.site_disk.SiteDisk.{SiteDisk}
use Rattle.site_disk.specs.declared.site_disk.SiteDisk.TheVariants.{Usual, Wary}

module _ {A B : Type 0} where
  -- what the one says of a disk of the first kind, and the other of one of the second
  abbrev pub by_kind : {R : Type 0} → (A → R) → (B → R) → SiteDisk A B → R
  by_kind of_usual of_wary (Usual disk) = of_usual disk
  by_kind of_usual of_wary (Wary disk) = of_wary disk

  -- the same for what may hold of a disk
  abbrev pub holds_by_kind : {R : Type 0} → (A → R → Type 0) → (B → R → Type 0) → SiteDisk A B → R → Type 0
  holds_by_kind of_usual of_wary (Usual disk) = of_usual disk
  holds_by_kind of_usual of_wary (Wary disk) = of_wary disk

  -- the same for what holds of each disk
  abbrev pub law_by_kind : (Law : SiteDisk A B → Type 0) → ((disk : A) → Law (Usual disk)) → ((disk : B) → Law (Wary disk)) → (disk : SiteDisk A B) → Law disk
  law_by_kind Law of_usual of_wary (Usual disk) = of_usual disk
  law_by_kind Law of_usual of_wary (Wary disk) = of_wary disk

  -- it is of the second kind
  abbrev pub is_wary : SiteDisk A B → Bool
  is_wary = by_kind (λ _. false) (λ _. true)

module _ {S T : Type 0} {g : calls.Ghosts Host} {usual : Ghosts S} {wary : Ghosts T} where
  -- no flush of a site's file has failed
  abbrev pub may_be_used : SiteDisk (Modelled Host S g usual) (Modelled Host T g wary) → Bool
  may_be_used = by_kind (file_is_usable usual) (file_is_usable wary)

  -- what a read of it returns
  abbrev pub held_by : SiteDisk (Modelled Host S g usual) (Modelled Host T g wary) → List ℕ
  held_by = by_kind (λ file. (replay (start_of usual file) file.calls.log.events).seen) (λ file. (replay (start_of wary file) file.calls.log.events).seen)
