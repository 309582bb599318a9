use Rattle.std.proofs.Common.{◌≡◌, map}
use Rattle.cast_script.specs.Words.{parts_at, texts}
use Rattle.cast_script.specs.Readings.{GivesAt, end_after, numbered_line, script_of, site_on, used_of}
use Rattle.cast_script.proofs.Spelled.{given_has_domains}
use Rattle.cast_script.proofs.script.parse.Goals as goal

-- the used lines are those of the text, and so is the line behind them
exact : (c : goal.After-drop-lines-2) → GivesAt c.parse_lines.result (script_of c.args.text.now)
unfolding script_of
exact c =
    let lines : texts c.in_ok-lines.lines.items ≡ parts_at 10 c.args.text.now = c.in_ok-lines.ensures in
    let end : c.end_of.result ≡ end_after 1 (parts_at 10 c.args.text.now) = rw (c.deref-3.ensures.value, lines) at c.end_of.ensures in
    let found : map numbered_line c.in_ok-used.used.items ≡ used_of (texts c.deref.result.now) = c.in_ok-used.ensures in
    let used : map numbered_line c.deref-2.result.now ≡ used_of (parts_at 10 c.args.text.now) =
    rw c.deref-2.ensures.value (rw (c.deref.ensures.value, lines) at found) in
    let given : GivesAt c.parse_lines.result (site_on c.end_of.result (map numbered_line c.deref-2.result.now)) = c.parse_lines.ensures in
    rw (end, used) at given

pub returns-clause-exact : goal.returns-clause-exact
returns-clause-exact c = exact c

pub returns-clause-valid : goal.returns-clause-valid
returns-clause-valid c = given_has_domains c.args.text.now c.parse_lines.result (exact c)
