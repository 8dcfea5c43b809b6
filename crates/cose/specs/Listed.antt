-- What a list of valid signatures holds.
use Rattle.std.specs.Prelude.{ℕ, List}
use Rattle.cose.specs.declared.key.CoseKey.{CoseKey}
use Rattle.cose.specs.declared.list.Entry.{Entry}

-- the key, the message and the signature of an entry
abbrev pub entry_view : Entry → CoseKey × List ℕ × List ℕ
entry_view e = (e.key, e.message.items, e.sig.items)
