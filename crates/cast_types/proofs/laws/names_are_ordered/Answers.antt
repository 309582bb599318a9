use Rattle.cast_types.proofs.Orders.{domain_total, domain_exact, site_total, site_exact, group_total, group_exact}
use Rattle.cast_types.proofs.Orders.{proc_total, proc_exact, entry_total, entry_exact, uid_total, uid_exact}
use Rattle.cast_types.proofs.laws.names_are_ordered.Goals as goal

pub returns : goal.returns
returns c = record {
  domains = record { total = domain_total; exact = domain_exact };
  sites = record { total = site_total; exact = site_exact };
  groups = record { total = group_total; exact = group_exact };
  processes = record { total = proc_total; exact = proc_exact };
  entries = record { total = entry_total; exact = entry_exact };
  messages = record { total = uid_total; exact = uid_exact };
}
