-- The first words of lines.
use Rattle.std.proofs.Common.{◌≡◌, ◌≢◌, ℕ, List, Ok, Err, refl}
use Rattle.cast_script.specs.declared.words.Reason.TheVariants.{UnknownWord}
use Rattle.cast_script.specs.declared.lines.Head.{Head}
use Rattle.cast_script.specs.declared.lines.Head.TheVariants.{Site, Domain, Open, Join, Leave, Cast, Abcast}
use Rattle.cast_script.specs.declared.lines.Head.TheVariants.{Pass, Bad, Gone, Frame, Suspect, Quota, Take, Tick}
use Rattle.cast_script.specs.Lines.{head_text}
use Rattle.cast_script.specs.LineReadings.{head_of, heads}
use Rattle.cast_script.proofs.Named.{among_is, none_among}

pub head_is : (word : List ℕ) (h : Head) → head_of word ≡ Ok h → word ≡ head_text h
unfolding head_of
head_is word h e = among_is head_text heads word h e

pub head_again : (h : Head) → head_of (head_text h) ≡ Ok h
unfolding head_of
head_again Site = refl
head_again Domain = refl
head_again Open = refl
head_again Join = refl
head_again Leave = refl
head_again Cast = refl
head_again Abcast = refl
head_again Pass = refl
head_again Bad = refl
head_again Gone = refl
head_again Frame = refl
head_again Suspect = refl
head_again Quota = refl
head_again Take = refl
head_again Tick = refl

pub head_not : (word : List ℕ) → ((h : Head) → word ≢ head_text h) → head_of word ≡ Err UnknownWord
unfolding head_of
head_not word none = none_among head_text heads word none
