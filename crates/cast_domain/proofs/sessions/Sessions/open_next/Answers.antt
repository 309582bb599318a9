use Rattle.std.proofs.Common.{◌≡◌, ◌∙◌, ◌+◌, ◌++◌, ◌∷◌, [], ap, arith}
use Rattle.std.specs.Prelude.{map}
use Rattle.cast_events.specs.declared.session.Status.TheVariants.{Open}
use Rattle.cast_domain.specs.GivenSessions.{are_given, record_of}
use Rattle.cast_domain.proofs.Serials.{given_more, last_given, seen_more}
use Rattle.cast_domain.proofs.sessions.Sessions.open_next.Goals as goal
use Rattle.cast_domain.proofs.sessions.Sessions.open_next.Goals.{After-self-1}

-- the next serial is none that was given, so it goes last
last : (c : After-self-1) → c.insert.new.self.entries ≡ c.self.inside.statuses.entries ++ (c.self.inside.used + 1, Open) ∷ []
last c =
    c.in_ok-insert.ensures.entries
    ∙ last_given (c.self.inside.used + 1) c.self.inside.used c.self.inside.statuses.entries (omega arith) c.self.invariant

pub invariant_of-self-2 : goal.invariant_of-self-2
invariant_of-self-2 c =
    ap (are_given (c.self.inside.used + 1)) (last c) ∙ given_more c.self.inside.used c.self.inside.statuses.entries c.self.invariant

pub returns : goal.returns
returns c = rw (← c.self.view_is) (λ i. record {
  used = c.self.inside.used + 1;
  records = (ap (map record_of) (last c) ∙ seen_more (c.self.inside.used + 1) c.self.inside.statuses.entries) i;
})
