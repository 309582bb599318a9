-- Passes of the records are passes of what they stand for.
use Rattle.std.proofs.Common.{◌≡◌, [], refl, sym, subst}
use Rattle.cast_types.proofs.Iterates.{Led, led_on, led_rests}
use Rattle.cast_rules.specs.State.{State}
use Rattle.cast_rules.specs.Rest.{pass, RestsAt}
use Rattle.cast_rules.specs.Run.{before_event}
use Rattle.cast_domain.specs.Records.{Records}
use Rattle.cast_domain.specs.Calls.{records}
use Rattle.cast_domain.specs.RestCalls.{resting_records}
use Rattle.cast_rules.specs.Rules.Rest as rest
use Rattle.cast_rules.specs.Lawful.{IsLawful}
use Rattle.cast_domain.specs.Fits.{Fits}
use Rattle.cast_rules.proofs.LawfulSteps.{lawful_pass}
use Rattle.cast_domain.proofs.Standing.{orders_same}
use Rattle.cast_domain.proofs.Standstill.{still_pass}
use Rattle.cast_domain.proofs.Resting.{fits_pass}

-- the records stand for a lawful history
abbrev pub Stands : Records → State → Type 0
Stands r s = Fits r s × IsLawful s

pub stands_pass : (w v : Records) → v ≡ rest.pass records resting_records w → (s : State) → Stands w s → Stands v (pass s)
stands_pass w v made s h = (subst (λ r. Fits r (pass s)) (sym made) (fits_pass w s h.0 h.1), lawful_pass s h.1)

-- between two steps nothing is sent, delivered or pushed
pub fits_between : (r : Records) (s : State) → Fits r s → Fits (record r { frames = []; delivered = []; pushed = [] }) (before_event s)
fits_between r s fits = record {
  core = fits.core;
  opened = record { rows = fits.opened.rows; boxes = fits.opened.boxes; unused = fits.opened.unused };
  groups = fits.groups;
  messages = fits.messages;
  processes = fits.processes;
  acks = fits.acks;
  orders = orders_same s (before_event s) r.orders refl refl refl refl refl refl refl refl (λ u is. is) fits.orders;
  frames = refl;
  delivered = refl;
  pushed = refl;
}

-- one more pass
pub led_pass : (w v : Records) → v ≡ rest.pass records resting_records w → (s : State) → Led Stands pass w s → Led Stands pass v s
led_pass w v made s led = led_on Stands pass w v s led (stands_pass w v made)

-- a pass that changes no record is the end
pub led_end : (w v : Records) → v ≡ rest.pass records resting_records w → v ≡ w → (s : State) → Led Stands pass w s →
    (t : State) × RestsAt s t × Fits v t
led_end w v made still s led =
    let rest = led_rests Stands pass w v s led (stands_pass w v made)
    (λ t h. still_pass w t h.0 h.1 (subst (λ r. Fits r (pass t)) still (stands_pass w v made t h).0)) in
    (rest.0, rest.1, rest.2.0)
