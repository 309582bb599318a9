use Rattle.cast_events.proofs.config.DomainConfig.copy.Goals as goal

pub returns : goal.returns
returns c =
    let sites = c.in_ok-copy.ensures in
    let groups = c.in_ok-copy-2.ensures in
    λ i. record (c.args.self.now) { sites = sites i; groups = groups i }
