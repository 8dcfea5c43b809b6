-- What is owed of `read_view`.
use Rattle.std.proofs.Common.{◌≡◌, ◌<◌, ◌^◌, ℕ, List, ◌∷◌, ◌++◌, length, drop, Option, option_map, is_some, ap, subst, sym, ◌∙◌}
use Rattle.std.proofs.Common.{inl, arith, rules, refl}
use Rattle.std.specs.Prelude.{IfSome}
use Rattle.std.specs.Int.{w32, to_be_bytes}
use Rattle.authdata.specs.Flags.{is_set, HasBackup, AT, ED}
use Rattle.authdata.specs.Layout.{IsAttestedCredential, attested_bytes, lent_attested_view}
use Rattle.authdata.specs.Refusals.{flags_in}
use Rattle.authdata.specs.declared.auth.AttestedView.{AttestedView}
use Rattle.authdata.specs.declared.profile.Profile.{Profile}
use Rattle.authdata.proofs.Firsts.{WasRead, auth_is, backup_first, extensions_first, extra_applies, extra_first, lifted}
use Rattle.authdata.proofs.Firsts.{is_some-map, no_map_applies, no_map_first, out, parts_join, parts_whole, short_first}
use Rattle.authdata.proofs.NoRefusal.{not_refused}
use Rattle.authdata.proofs.reading.read_view.Goals as goal

-- what the steps told is what was read
was_read : {p : Profile} {bs hash rest behind : List ℕ} {flags count : ℕ} {o : Option AttestedView} → flags < 256 → count < 2 ^ 32 → HasBackup flags
    → length hash ≡ 32 → flags ≡ flags_in bs → bs ≡ hash ++ (flags ∷ (to_be_bytes w32 count ++ behind)) → behind ≡ drop 37 bs
    → is_set (flags_in bs) AT ≡ is_some o → IfSome (option_map lent_attested_view o) (IsAttestedCredential p)
    → drop 37 bs ≡ attested_bytes (option_map lent_attested_view o) ++ rest → WasRead p bs hash flags count o rest
was_read {p} {bs} {hash} {rest} {behind} flags_low count_low backup hash_length flags_same parts fixed at attested found = record {
  hash_length = hash_length;
  flags_low = flags_low;
  count_low = count_low;
  flags_same = flags_same;
  at = at;
  backup = backup;
  attested = attested;
  behind = behind;
  parts = parts;
  credential = fixed ∙ found;
}

pub returns-then-is_short-clause-refused : goal.returns-then-is_short-clause-refused
returns-then-is_short-clause-refused c = short_first c.args.profile c.args.bytes.now ((c.is_short.ensures c.args.profile).0 c.if-is_short.true)

pub returns-then-is_short-clause-none : goal.returns-then-is_short-clause-none
returns-then-is_short-clause-none c = λ a h. not_refused c.args.profile a c.args.bytes.now _ (returns-then-is_short-clause-refused c) h

pub returns-in_default-clause-refused : goal.returns-in_default-clause-refused
returns-in_default-clause-refused c = short_first c.args.profile c.args.bytes.now (inl c.in_default.ensures.rest)

pub returns-then-bars_extensions-clause-refused : goal.returns-then-bars_extensions-clause-refused
returns-then-bars_extensions-clause-refused c =
    let p = c.args.profile in let bs = c.args.bytes.now in
    let bars = c.bars_extensions.ensures.0 c.if-bars_extensions.true in
    extensions_first p bs (out (c.is_short.ensures p) c.if-is_short.false)
    (bars.0, ap (λ n. is_set n ED) (sym c.in-Some.ensures.flags) ∙ bars.1)

pub returns-then-bars_extensions-clause-none : goal.returns-then-bars_extensions-clause-none
returns-then-bars_extensions-clause-none c = λ a h. not_refused c.args.profile a c.args.bytes.now _ (returns-then-bars_extensions-clause-refused c) h

pub returns-then-not-has_backup-clause-refused : goal.returns-then-not-has_backup-clause-refused
returns-then-not-has_backup-clause-refused c =
    let p = c.args.profile in let bs = c.args.bytes.now in let s = c.in-Some in
    backup_first p bs (out (c.is_short.ensures p) c.if-is_short.false)
    (λ x. out c.bars_extensions.ensures c.if-bars_extensions.false (x.0, ap (λ n. is_set n ED) s.ensures.flags ∙ x.1))
    (λ h. let t = c.has_backup.ensures.1 (subst HasBackup (sym s.ensures.flags) h) in search rules)

pub returns-then-not-has_backup-clause-none : goal.returns-then-not-has_backup-clause-none
returns-then-not-has_backup-clause-none c = λ a h. not_refused c.args.profile a c.args.bytes.now _ (returns-then-not-has_backup-clause-refused c) h

pub attested_at-requires : goal.attested_at-requires
attested_at-requires c = out (c.is_short.ensures c.args.profile) c.if-is_short.false

pub returns-in-Err-clause-refused : goal.returns-in-Err-clause-refused
returns-in-Err-clause-refused c =
    let p = c.args.profile in let bs = c.args.bytes.now in let s = c.in-Some in
    lifted p bs _ (out (c.is_short.ensures p) c.if-is_short.false)
    (λ x. out c.bars_extensions.ensures c.if-bars_extensions.false (x.0, ap (λ n. is_set n ED) s.ensures.flags ∙ x.1))
    (λ b. b (search rules)) c.in-Err.ensures.refused

pub returns-in-Err-clause-none : goal.returns-in-Err-clause-none
returns-in-Err-clause-none c = λ a h. not_refused c.args.profile a c.args.bytes.now _ (returns-in-Err-clause-refused c) h

pub returns-in_default-extensions_at-clause-refused : goal.returns-in_default-extensions_at-clause-refused
returns-in_default-extensions_at-clause-refused c =
    let p = c.args.profile in let bs = c.args.bytes.now in let s = c.in-Some in let k = c.in-Ok in
    let w : WasRead p bs s.hash.now s.flags s.sign_count k.attested k.rest.now = was_read (search rules) (search rules) (search rules)
    s.ensures.hash s.ensures.flags s.ensures.parts s.ensures.rest k.ensures.flag k.ensures.is k.ensures.found in
    let none = c.in_default-extensions_at.ensures.none refl in
    no_map_first p bs (out (c.is_short.ensures p) c.if-is_short.false)
    (λ x. out c.bars_extensions.ensures c.if-bars_extensions.false (x.0, ap (λ n. is_set n ED) s.ensures.flags ∙ x.1))
    (λ b. b (subst HasBackup s.ensures.flags w.backup)) k.ensures.good_id k.ensures.good_key (no_map_applies w none.0 none.1)

pub returns-in_default-extensions_at-clause-none : goal.returns-in_default-extensions_at-clause-none
returns-in_default-extensions_at-clause-none c =
    λ a h. not_refused c.args.profile a c.args.bytes.now _ (returns-in_default-extensions_at-clause-refused c) h

pub returns-then-rest-gt0-clause-refused : goal.returns-then-rest-gt0-clause-refused
returns-then-rest-gt0-clause-refused c =
    let p = c.args.profile in let bs = c.args.bytes.now in let s = c.in-Some in let k = c.in-Ok in let x = c.in-Some-extensions_at in
    let w : WasRead p bs s.hash.now s.flags s.sign_count k.attested k.rest.now = was_read (search rules) (search rules) (search rules)
    s.ensures.hash s.ensures.flags s.ensures.parts s.ensures.rest k.ensures.flag k.ensures.is k.ensures.found in
    let is = auth_is (option_map (λ b. b.now) x.extensions) w (x.ensures.flag ∙ sym (is_some-map (λ b. b.now) x.extensions))
    (out c.bars_extensions.ensures c.if-bars_extensions.false) x.ensures.is in
    let some : 0 < length x.rest.now = omega arith in
    let extra = extra_applies (option_map (λ b. b.now) x.extensions) x.rest.now w is x.ensures.found some in
    extra_first p bs (out (c.is_short.ensures p) c.if-is_short.false)
    (λ e. out c.bars_extensions.ensures c.if-bars_extensions.false (e.0, ap (λ n. is_set n ED) s.ensures.flags ∙ e.1))
    (λ b. b (subst HasBackup s.ensures.flags w.backup)) k.ensures.good_id k.ensures.good_key
    (λ m. m.1 _ _ x.rest.now (is, refl) (parts_join (option_map (λ b. b.now) x.extensions) x.rest.now w x.ensures.found)) extra

pub returns-then-rest-gt0-clause-none : goal.returns-then-rest-gt0-clause-none
returns-then-rest-gt0-clause-none c = λ a h. not_refused c.args.profile a c.args.bytes.now _ (returns-then-rest-gt0-clause-refused c) h

pub returns-clause-found : goal.returns-clause-found
returns-clause-found c =
    let p = c.args.profile in let bs = c.args.bytes.now in let s = c.in-Some in let k = c.in-Ok in let x = c.in-Some-extensions_at in
    let w : WasRead p bs s.hash.now s.flags s.sign_count k.attested k.rest.now = was_read (search rules) (search rules) (search rules)
    s.ensures.hash s.ensures.flags s.ensures.parts s.ensures.rest k.ensures.flag k.ensures.is k.ensures.found in
    let is = auth_is (option_map (λ b. b.now) x.extensions) w (x.ensures.flag ∙ sym (is_some-map (λ b. b.now) x.extensions))
    (out c.bars_extensions.ensures c.if-bars_extensions.false) x.ensures.is in
    (is, parts_whole (option_map (λ b. b.now) x.extensions) x.rest.now w x.ensures.found (λ some. omega (arith, some)))
