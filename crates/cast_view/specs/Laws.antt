-- Whom the home makes members of the next view, and what comes to a site again, in words.
use Rattle.std.specs.Prelude.{◌≡◌, ℕ, ◌≤◌, not, ◌&&◌, ◌||◌}
use Rattle.cast_types.specs.declared.names.Proc.{Proc}
use Rattle.cast_types.specs.Names.{proc_eq}
use Rattle.cast_types.specs.Sets.{is_among}
use Rattle.cast_view.specs.declared.member.Pending.{Pending}
use Rattle.cast_view.specs.Home.{Home, is_suspected, stays, decided_list}
use Rattle.cast_view.specs.MemberSide.{MemberSide, after_prepare, after_install, after_out}

-- The next view has the members that are neither leaving nor at suspected sites, and the joins that
-- are not at suspected sites, and nobody else
abbrev pub MembersInWords : Type 0
MembersInWords =
    (h : Home) (p : Proc)
    → is_among proc_eq p (decided_list h)
    ≡ ((is_among proc_eq p h.members.list && stays h p)
    || (is_among proc_eq p h.joins && not (is_suspected h p.site)))

-- A Prepare that comes again changes nothing
abbrev pub PreparesOnce : Type 0
PreparesOnce =
    (g : MemberSide) (view : ℕ) → after_prepare (after_prepare g view) view ≡ after_prepare g view

-- An Install that comes again changes nothing, whatever it says then
abbrev pub InstallsOnce : Type 0
InstallsOnce =
    (g : MemberSide) (n : ℕ) (p q : Pending)
    → after_install (after_install g n p) n q ≡ after_install g n p

-- After an Out, one with the same number or a lower one changes nothing
abbrev pub OutsOnce : Type 0
OutsOnce = (g : MemberSide) (n m : ℕ) → m ≤ n → after_out (after_out g n) m ≡ after_out g n
