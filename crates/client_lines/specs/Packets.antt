-- The packets of an act's channel: what is received.
use Rattle.std.specs.Prelude.{ℕ, List}
use Rattle.hidframe.specs.declared.Packet.{Packet}
use Rattle.hidframe.specs.declared.ctaphid.TheConstants.{CTAPHID_CBOR}
use Rattle.hidlink.specs.Wire.{Carries}
use Rattle.client_lines.specs.declared.channel.Fed.{Fed}
use Rattle.client_lines.specs.declared.channel.Fed.TheVariants.{More, Processing, Touch, Reply}

-- a reply that these packets gave is the message that they carry on the channel (CTAP 2.1, section 11.2.4)
abbrev pub IsCarried : ℕ → List Packet → Fed → Type 0
IsCarried c ps (Reply message) = Carries c ps CTAPHID_CBOR message.items
IsCarried c ps More = Unit {0}
IsCarried c ps Processing = Unit {0}
IsCarried c ps Touch = Unit {0}
