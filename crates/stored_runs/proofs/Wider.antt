-- What is done by a relation is done by a wider one.
use Rattle.std.proofs.Common.{ℕ, [], ◌∷◌, true, false, refl}
use Rattle.cose.specs.Schemes.{Validity}
use Rattle.authenticator.specs.Steps.{Keys}
use Rattle.agreement.specs.Hosts.{HostsRuns, IsWithin}
use Rattle.agreement.specs.World.{Event, EventEnd, Happens, World}
use Rattle.stored_runs.specs.History.{Abandons, Begins, Call, Calls, Commits, Deletes, Does, Erases, Kept, Opens, Registers, Retires, RetiresAll, SignsIn, Step, Store, Takes}
use Rattle.stored_runs.specs.Among.{Act, Elsewhere, Plays, Scene, Stores}

module _ {I : Type 0} (narrow : I → Validity) (wide : Validity) (public : Keys) (hosts : HostsRuns narrow wide public) (v : I) (within : IsWithin (narrow v) wide) where
  does : {S : Type 0} (old new : Kept S) (c : Call) → Does (narrow v) old c new → Does wide old c new
  does old new (Begins o now) h = h
  does old new (Abandons text now) h = h
  does old new (Retires id was now) h = h
  does old new (Deletes id was now) h = h
  does old new (RetiresAll user ids now) h = h
  does old new (Erases user ids now) h = h
  does old new (SignsIn n text r now) h =
      let x = h.0.1 in (
        (
          h.0.0,
          record {
            expected = x.expected;
            place = x.place;
            credential = x.credential;
            data_read = x.data_read;
            found = x.found;
            session = x.session;
            passes = hosts.signs_in v _ within x.passes;
            read = x.read;
            tells_user = x.tells_user;
            tells_credential = x.tells_credential;
            tells_data = x.tells_data;
            after_is = x.after_is;
          },
        ),
        h.1,
        h.2,
      )
  does old new (Registers n text r now) h =
      let x = h.0.2 in (
        (
          h.0.0,
          h.0.1,
          record {
            expected = x.expected;
            object = x.object;
            data_read = x.data_read;
            credential = x.credential;
            session = x.session;
            attests = x.attests;
            passes = λ ids tells. hosts.registers v _ within (x.passes ids tells);
            fresh = x.fresh;
            tells = x.tells;
            tells_data = x.tells_data;
            tells_aaguid = x.tells_aaguid;
            tells_format = x.tells_format;
            after_is = x.after_is;
          },
        ),
        h.1,
        h.2,
      )

  takes : {S : Type 0} (old new : Store S) (step : Step) → Takes (narrow v) old step new → Takes wide old step new
  takes old new (Calls c) h = record {
    one = h.one;
    does = does old.now new.now c h.does;
    own = h.own;
    later = h.later;
    second = h.second;
    begun = h.begun;
    committed = h.committed;
  }
  takes old new Commits h = h
  takes old new (Opens true) h = h
  takes old new (Opens false) h = h

  happens : (old new : World) (e : Event) (end : EventEnd) → Happens (narrow v) public old e end new → Happens wide public old e end new
  happens old new e end h =
      (hosts.run old (record { old = old; event = e; end = end; new = new } ∷ []) (refl, (v, within, h), tt)).1

  pub plays : {S : Type 0} (i : ℕ) (old new : Scene S) (act : Act) → Plays (narrow v) public i old act new → Plays wide public i old act new
  plays i old new (Stores step) h = (takes old.store new.store step h.0, h.1, h.2)
  plays i old new (Elsewhere e end) h = (h.0, happens old.world new.world e end h.1, h.2)
