-- How many bytes the spellings of frames have, and what follows of them.
use Rattle.std.proofs.Common.{◌≡◌, ℕ, ◌≤◌, List, length, Result, Ok, Err, sym, ap, ◌∙◌, arith}
use Rattle.std.specs.Prelude.{IfOk}
use Rattle.std.proofs.lemmas.List.{length-append}
use Rattle.cast_types.specs.declared.names.DomainNo.{DomainNo}
use Rattle.cast_types.specs.declared.names.SiteNo.{SiteNo}
use Rattle.cast_field.specs.declared.fault.FrameFault.{FrameFault}
use Rattle.cast_message.specs.declared.site.SiteFrame.{SiteFrame}
use Rattle.cast_message.specs.declared.site.SiteFrame.TheVariants.{Data, Ack, Stable, Ask, Asked, Prepare, Flushed}
use Rattle.cast_message.specs.declared.site.SiteFrame.TheVariants.{Want, Forward, Install, Installed, Out}
use Rattle.cast_frame.specs.Spelling.{change_code, full_code, frame_code, is_handing, version_code, spelled_fields, spelled_site}
use Rattle.cast_frame.specs.Spelled.{IsFrame, IsSpelled}
use Rattle.cast_field.specs.Reading.{Gives}
use Rattle.cast_frame.specs.Reading.{site_frame_of}
use Rattle.cast_frame.specs.Laws.{SpelledIsRead, SpellingsDiffer, SpelledFits}
use Rattle.cast_field.proofs.Fields.{IsBytes, ok_is}
use Rattle.cast_frame.proofs.Frames.{found, read_again}
use Rattle.cast_field.proofs.Sizes.{short_size, word_size, byte_size, proc_size, uid_size}
use Rattle.cast_field.proofs.Sizes.{counts_size, message_size, members_size, tail_size, kept_size}

fields_size : (f : SiteFrame) → IsFrame f → length (spelled_fields f) ≤ 37108
unfolding spelled_fields
fields_size (Data m) is = message_size m is
fields_size (Ack u) is = omega (arith, uid_size u)
fields_size (Stable u) is = omega (arith, uid_size u)
fields_size (Ask g n c p) is =
    simp length-append (omega (arith, short_size g.0, word_size n, byte_size (change_code c), proc_size p))
fields_size (Asked g n full) is = simp length-append (omega (arith, short_size g.0, word_size n, byte_size (full_code full)))
fields_size (Prepare g view) is = simp length-append (omega (arith, short_size g.0, word_size view))
fields_size (Flushed g view counts tail kept) is =
    simp length-append
    (omega (arith, short_size g.0, word_size view, counts_size counts is.counts, tail_size tail is.tail, kept_size kept is.kept))
fields_size (Want u) is = omega (arith, uid_size u)
fields_size (Forward m) is = message_size m is
fields_size (Install g view m request cut tail) is =
    simp length-append (omega
    (arith, short_size g.0, word_size view, members_size m is.members, word_size request, counts_size cut is.cut, tail_size tail is.tail))
fields_size (Installed g view) is = simp length-append (omega (arith, short_size g.0, word_size view))
fields_size (Out g view) is = simp length-append (omega (arith, short_size g.0, word_size view))

pub spelled_fits : SpelledFits
unfolding spelled_site
spelled_fits d s f is =
    simp length-append (omega (
      arith,
      short_size 0x4344,
      byte_size (version_code (is_handing f)),
      byte_size (frame_code f),
      byte_size d.0,
      short_size s.0,
      fields_size f is.frame,
    ))

pub spelled_is_read : SpelledIsRead
spelled_is_read d s f is = read_again d s f is (spelled_fits d s f is)

pub spellings_differ : SpellingsDiffer
spellings_differ d e s t f g a b same =
    let one : (d, s, f) ≡ (e, t, g) =
    ok_is (d, s, f) (e, t, g) (sym (spelled_is_read d s f a) ∙ ap site_frame_of same ∙ spelled_is_read e t g b) in (
      ap (λ (x : DomainNo × SiteNo × SiteFrame). x.0) one,
      ap (λ (x : DomainNo × SiteNo × SiteFrame). x.1) one,
      ap (λ (x : DomainNo × SiteNo × SiteFrame). x.2) one,
    )

pub is_found : (bytes : List ℕ) (r : Result (DomainNo × SiteNo × SiteFrame) FrameFault) → IsBytes bytes → Gives r (site_frame_of bytes) →
    IfOk r (λ x. IsSpelled x.0 x.1 x.2 × (bytes ≡ spelled_site x.0 x.1 x.2))
is_found bytes (Ok x) fits given = found bytes x fits given
is_found bytes (Err e) fits given = tt
