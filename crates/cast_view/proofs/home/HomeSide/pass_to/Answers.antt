use Rattle.std.proofs.Common.{◌≡◌, List, filter, sym, ap, ◌∙◌, subst, IsTrue, Vec, Global}
use Rattle.cast_types.specs.declared.names.SiteNo.{SiteNo}
use Rattle.cast_types.specs.declared.names.Proc.{Proc}
use Rattle.cast_types.specs.Names.{site_eq}
use Rattle.cast_types.specs.Sets.{is_among}
use Rattle.cast_view.specs.Home.{Home, is_sound, decide_view, decided_list, decided_holder}
use Rattle.cast_view.specs.contracts.home.HomeSide.{the_view}
use Rattle.cast_view.proofs.Flushes.{passed_parts}
use Rattle.cast_view.proofs.Rooms.{sound_passed}
use Rattle.cast_view.proofs.home.HomeSide.pass_to.Goals as goal

-- each part is that of the decided home
pub returns : goal.returns
returns c =
    let old = the_view c.self.inside in
    let sites : c.deref.result.now ≡ c.self.inside.suspected.items =
    c.deref.ensures.value ∙ ap (λ (v : Vec SiteNo Global). v.items) c.replace-suspected.ensures.value in
    passed_parts old c.args.list c.decided_holder-holder.result c.from_parts.result c.keep_at.new.self c.new-2.result
    c.replace-suspected.new.dest.items c.self.inside.flush
    (c.from_parts.ensures ∙ ap (λ (l : List Proc). record { list = l; holder = c.decided_holder-holder.result }) c.into_vec.ensures.value)
    (c.requires.list ∙ ap decided_list (sym c.self.view_is))
    (c.decided_holder-holder.ensures.value
    ∙ ap (λ (h : Home). decided_holder h c.as_slice.result.now) (sym c.self.view_is)
    ∙ ap (decided_holder old) c.as_slice.ensures.value)
    (c.keep_at.ensures ∙ ap (λ (s : List SiteNo). filter (λ p. is_among site_eq p.site s) c.self.inside.joins) sites)
    c.new-2.ensures
    (ap (λ (v : Vec SiteNo Global). v.items) c.replace-suspected.ensures.after ∙ c.new.ensures.items)
    ∙ ap (λ (h : Home). record (decide_view h) { phase = h.phase }) c.self.view_is

-- and it has room
pub invariant_of-self : goal.invariant_of-self
invariant_of-self c =
    subst (λ h. IsTrue (is_sound h)) (sym (returns c))
    (sound_passed c.args.self.now c.args.self.now.phase c.requires.phase (subst (λ h. IsTrue (is_sound h)) c.self.view_is c.self.invariant))
