use Rattle.std.proofs.Common.{◌++◌, ◌∷◌, [], map, sym, ap, ◌∙◌, subst}
use Rattle.std.specs.List.{slice_split}
use Rattle.std.proofs.lemmas.List.{append_assoc}
use Rattle.cast_record.specs.Parts.{IsOf, is_line_feed, line_of}
use Rattle.cast_record.proofs.Files.{all_lines, cut_file, next_line, one_more, whole_file}
use Rattle.cast_record.proofs.joined.Joined.add_file.Goals as goal

pub loop-line-preserved : goal.loop-line-preserved
loop-line-preserved c = record {
  part = c.in_ok-add.ensures.part ∙ c.loop-line.invariant.part;
  lines = λ lines is.
      let before = c.loop-line.invariant.lines lines is in
      let line = c.in-Some.line.now in
      let behind = c.in-Some.behind.now in
      let is_first = c.args.is_first in (
        before.0 ++ line ∷ [],
        before.1
            ∙ ap (λ ls. before.0 ++ ls)
            (next_line c.loop-line.rest.now line behind c.in-Some.ensures.found c.in-Some.ensures.before c.in-Some.ensures.behind)
            ∙ sym (append_assoc before.0 (line ∷ []) (slice_split is_line_feed behind)),
        subst (λ ls. IsOf c.add.new.self ls) (one_more lines is_first before.0 line)
            (c.in_ok-add.ensures.lines (lines ++ map (line_of is_first) before.0) before.2),
      );
}

pub returns-in_ok-add-2-clause-lines : goal.returns-in_ok-add-2-clause-lines
returns-in_ok-add-2-clause-lines c = λ lines is.
    let before = c.loop-line.invariant.lines lines is in
    let rest = c.loop-line.rest.now in
    let is_first = c.args.is_first in
    subst (λ ls. IsOf c.add-then-is_whole.new.self ls)
    (whole_file lines is_first c.args.is_whole c.args.bytes.now before.0 rest c.if-is_whole.true
    (all_lines before.0 (slice_split is_line_feed c.args.bytes.now) rest c.in_default.ensures.none before.1))
    (c.in_ok-add-2.ensures.lines (lines ++ map (line_of is_first) before.0) before.2)

pub returns-else-is_whole-clause-lines : goal.returns-else-is_whole-clause-lines
returns-else-is_whole-clause-lines c = λ lines is.
    let before = c.loop-line.invariant.lines lines is in
    let rest = c.loop-line.rest.now in
    let is_first = c.args.is_first in
    subst (λ ls. IsOf c.loop-line.self ls)
    (cut_file lines is_first c.args.is_whole c.args.bytes.now before.0 rest c.if-is_whole.false
    (all_lines before.0 (slice_split is_line_feed c.args.bytes.now) rest c.in_default.ensures.none before.1))
    before.2
