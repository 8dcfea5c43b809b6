-- What is read of bytes is the one reply that they are.
use Rattle.std.proofs.Common.{◌≡◌, Option, Some, None, option_map, refl, sym, ap, ◌∙◌}
use Rattle.ctap_encoding.specs.Table.{record_of}
use Rattle.ctap_encoding.specs.Content.{Contents}
use Rattle.ctap_open_replies.specs.Reading.{open_in}
use Rattle.ctap_open_replies.proofs.Laws.{IsExact}
use Rattle.ctap_open_replies.proofs.Telling.{is_read}
use Rattle.pin_client_messages.specs.Commands.{key_members}
use Rattle.pin_client_messages.specs.Replies.{ToldKey, Told, TellsPin, key_content, reply_content, reply_members}

abbrev key_of : Contents key_members → ToldKey
key_of c = record { kty = c.0; alg = c.1.0; crv = c.1.1.0; x = c.1.1.1.0; y = c.1.1.1.1.0 }

key_back : (o : Option ToldKey) → option_map key_of (option_map key_content o) ≡ o
key_back (Some k) = refl
key_back None = refl

abbrev reply_of : Contents reply_members → Told
reply_of c = record { key = option_map key_of c.0; token = c.1.0; pin_retries = c.1.1.0; power_cycle = c.1.1.1.0; uv_retries = c.1.1.1.1.0 }

reply_back : (q : Told) → reply_of (reply_content q) ≡ q
reply_back q = ap (λ (k : Option ToldKey). record {
  key = k;
  token = q.token;
  pin_retries = q.pin_retries;
  power_cycle = q.power_cycle;
  uv_retries = q.uv_retries;
}) (key_back q.key)

pub exact_reply : IsExact TellsPin (open_in (record_of reply_members)) reply_content
exact_reply = record {
  exact = λ q v t. is_read (record_of reply_members) v (reply_content q) t;
  one = λ q r e. sym (reply_back q) ∙ ap reply_of e ∙ reply_back r;
}
