use Rattle.std.proofs.Common.{◌∙◌, ap}
use Rattle.std.specs.Prelude.{map}
use Rattle.cast_domain.specs.GivenSessions.{are_given, record_of}
use Rattle.cast_domain.proofs.Serials.{given_without, seen_without}
use Rattle.cast_domain.proofs.sessions.Sessions.remove.Goals as goal

pub invariant_of-self : goal.invariant_of-self
invariant_of-self c =
    ap (are_given c.self.inside.used) c.remove_in.ensures
    ∙ given_without c.self.inside.used c.args.serial c.self.inside.statuses.entries c.self.invariant

pub returns : goal.returns
returns c =
    rw (← c.self.view_is) (λ i. record {
      used = c.self.inside.used;
      records = (ap (map record_of) c.remove_in.ensures
          ∙ seen_without c.args.serial c.self.inside.statuses.entries) i;
    })
