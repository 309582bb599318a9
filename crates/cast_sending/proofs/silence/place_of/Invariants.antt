use Rattle.std.proofs.Common.{◌≡◌, ℕ, ◌<◌, false, get_or}
use Rattle.cast_types.specs.declared.names.SiteNo.{SiteNo}
use Rattle.cast_types.specs.Names.{site_eq}
use Rattle.cast_sending.specs.declared.silence.Silence.{Silence}
use Rattle.cast_sending.proofs.silence.place_of.Given as goal

-- none of those before is of the site
abbrev pub invariant-loop-place : goal.invariant-loop-place
invariant-loop-place l =
    (k : ℕ) (d : SiteNo × Silence) → k < l.place → site_eq (get_or l.sites k d).0 l.site ≡ false
