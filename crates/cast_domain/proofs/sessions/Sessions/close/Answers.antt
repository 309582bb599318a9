use Rattle.std.proofs.Common.{◌∙◌, ap}
use Rattle.std.specs.Prelude.{map}
use Rattle.cast_domain.specs.GivenSessions.{are_given, record_of}
use Rattle.cast_domain.proofs.Serials.{given_closed, seen_closed}
use Rattle.cast_domain.proofs.sessions.Sessions.close.Goals as goal

pub invariant_of-self : goal.invariant_of-self
invariant_of-self c =
    ap (are_given c.self.inside.used) c.close_in.ensures
    ∙ given_closed c.self.inside.used c.args.serial c.self.inside.statuses.entries
    ∙ c.self.invariant

pub returns : goal.returns
returns c =
    rw (← c.self.view_is) (λ i. record {
      used = c.self.inside.used;
      records = (ap (map record_of) c.close_in.ensures
          ∙ seen_closed c.args.serial c.self.inside.statuses.entries) i;
    })
