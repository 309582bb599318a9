use Rattle.std.proofs.Common.{◌≡◌, ℕ, ◌≤◌, List, [], ◌∷◌, length, get_or, drop, map, Result, Ok, sym, arith}
use Rattle.std.proofs.lemmas.List.{take_rest}
use Rattle.cast_types.specs.declared.names.SiteNo.{SiteNo}
use Rattle.cast_script.specs.declared.script.Script.{Script}
use Rattle.cast_script.specs.declared.script.Line.{Line}
use Rattle.cast_script.specs.declared.script.ScriptFault.{ScriptFault}
use Rattle.cast_script.specs.Readings.{GivesAt, domains_on, numbered_line, site_at, site_on}
use Rattle.cast_script.proofs.script.parse_lines.Goals as goal

-- the rest is read behind the site
goes_on : (r : Result Script ScriptFault) (end : ℕ) (lines rest : List Line) (d : Line) (site : SiteNo) → 1 ≤ length lines →
    site_at (numbered_line (get_or lines 0 d)) ≡ Ok site → GivesAt r (domains_on site end [] (map numbered_line rest)) →
    rest ≡ drop 1 lines → GivesAt r (site_on end (map numbered_line lines))
unfolding site_on
goes_on r end [] rest d site some read given is = absurd (omega arith)
goes_on r end (line ∷ lines) rest d site some read given is = rw (read, sym is) given

pub returns : goal.returns
returns c =
    goes_on c.parse_domains.result c.args.end c.args.lines.now _ _ c.in_ok-site.site (omega arith)
    c.in_ok-site.ensures c.parse_domains.ensures (take_rest c.args.lines.now 1)
