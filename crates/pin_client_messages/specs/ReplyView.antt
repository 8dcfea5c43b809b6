-- Replies without where they lie in memory.
use Rattle.std.specs.Prelude.{option_map}
use Rattle.pin_client_messages.specs.declared.reply.AgreementKey.{AgreementKey}
use Rattle.pin_client_messages.specs.declared.reply.PinReply.{PinReply}
use Rattle.pin_client_messages.specs.Replies.{ToldKey, Told}

abbrev pub key_view : AgreementKey → ToldKey
key_view k = record { kty = k.kty; alg = k.alg; crv = k.crv; x = k.x.now; y = k.y.now }

abbrev pub reply_view : PinReply → Told
reply_view r = record {
  key = option_map key_view r.key;
  token = option_map (λ b. b.now) r.token;
  pin_retries = r.pin_retries;
  power_cycle = r.power_cycle;
  uv_retries = r.uv_retries;
}
