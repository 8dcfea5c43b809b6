-- What the private functions are proved against; no public clause cites it.
use Rattle.std.specs.Prelude.{◌≡◌, ◌≤◌, ◌<◌, ◌⊎◌, ◌++◌, ℕ, List, [], length, codes, None, Ok}
use Rattle.url.specs.declared.error.ParseError.{ParseError}
use Rattle.url.specs.Parts.{Parts}
use Rattle.url.specs.Parser.{IsOutOfRoom, parse_url}
use Rattle.url.specs.Origin.{origin_of, ascii_serialization}
use Rattle.hidframe.specs.declared.Packet.{Packet}
use Rattle.hidframe.specs.declared.ctaphid.TheConstants.{CTAPHID_CBOR, MAX_PAYLOAD_SIZE}
use Rattle.hidframe.specs.Frames.{TheZeroFrames}
use Rattle.ctap_requests.specs.Requests.{RequestMessage}
use Rattle.client.specs.declared.error.RequestError.{RequestError}
use Rattle.client.specs.declared.error.RequestError.TheVariants as refusals
use Rattle.client.specs.Origins.{IsOriginOn, IsRpIdOf}
use Rattle.client.specs.Asked.{IsWritten}

-- what `url` refuses is a fault of the text, or memory ran out, as which a URL of 4 GB counts
abbrev pub IsFault : ParseError → RequestError → Type 0
IsFault fault refusals.BadOrigin = IsOutOfRoom fault → ⊥
IsFault fault refusals.Memory = IsOutOfRoom fault
IsFault fault _ = ⊥

-- the text is the serialised origin of this URL, whose scheme is https
pub record IsUrlOf (text : List ℕ) (url : Parts) : Type 0 where
  pub size : length text ≤ 1024
  pub read : parse_url None text ≡ Ok url
  pub scheme : url.scheme ≡ codes "https"
  pub serialised : ascii_serialization (origin_of url) ≡ text

-- what stands in front of an rp id: nothing, or something that ends with a dot
abbrev pub IsCut : List ℕ → Type 0
IsCut front = (front ≡ []) ⊎ ((more : List ℕ) × (front ≡ more ++ codes "."))

-- the text is no origin; or memory ran out
abbrev pub IsNoOrigin : List ℕ → RequestError → Type 0
IsNoOrigin origin refusals.BadOrigin = (host : List ℕ) → IsOriginOn host origin → ⊥
IsNoOrigin origin refusals.Memory = Unit {0}
IsNoOrigin origin _ = ⊥

-- the origin is one on a host of which this is an rp id
pub record MayAsk (origin rp_id : List ℕ) : Type 0 where
  pub host : List ℕ
  pub on : IsOriginOn host origin
  pub own : IsRpIdOf host rp_id

-- or the text is no origin; or it is one, and the rp id is not one of its host; or memory ran out
abbrev pub MayNotAsk : List ℕ → List ℕ → RequestError → Type 0
MayNotAsk origin rp_id refusals.BadOrigin = (host : List ℕ) → IsOriginOn host origin → ⊥
MayNotAsk origin rp_id refusals.RpIdNotOfOrigin = (host : List ℕ) × IsOriginOn host origin × (IsRpIdOf host rp_id → ⊥)
MayNotAsk origin rp_id refusals.Memory = Unit {0}
MayNotAsk origin rp_id _ = ⊥

-- the message is too long for packets; or memory ran out
abbrev pub IsNotFramed : List ℕ → RequestError → Type 0
IsNotFramed m refusals.TooLong = MAX_PAYLOAD_SIZE < length m
IsNotFramed m refusals.Memory = Unit {0}
IsNotFramed m _ = ⊥

-- the packets are the request's bytes on the channel
pub record IsFramed (q : RequestMessage) (c : ℕ) (ps : List Packet) : Type 0 where
  pub message : List ℕ
  pub written : IsWritten q message
  pub size : length message ≤ MAX_PAYLOAD_SIZE
  pub packets : TheZeroFrames c CTAPHID_CBOR message ps

-- or it has no bytes; or these are too many; or memory ran out
abbrev pub IsNotSent : RequestMessage → RequestError → Type 0
IsNotSent q refusals.Unfit = (bs : List ℕ) → IsWritten q bs → ⊥
IsNotSent q refusals.TooLong = (bs : List ℕ) × IsWritten q bs × (MAX_PAYLOAD_SIZE < length bs)
IsNotSent q refusals.Memory = Unit {0}
IsNotSent q _ = ⊥
