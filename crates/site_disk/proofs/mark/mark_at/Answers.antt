-- What is owed of `mark_at`.
use Rattle.std.proofs.Common.{sym, subst, ◌∙◌}
use Rattle.site_disk.specs.Mark.{HasMark}
use Rattle.site_disk.proofs.Frames.{frame_within}
use Rattle.site_disk.proofs.mark.mark_at.Goals as goal

pub page_in-requires : goal.page_in-requires
page_in-requires c = frame_within c.args.log.now c.args.numbers.now c.args.i c.requires.frames c.requires.within

pub returns-in-Some : goal.returns-in-Some
returns-in-Some c = record {
  page = sym (c.requires.frames.1 c.args.i c.requires.within) ∙ c.if-numbers-i.false;
  has = subst (λ page. HasMark page c.in-Some.found.mark c.in-Some.found.follows) c.page_in.ensures c.in-Some.ensures;
}

pub returns-in-None : goal.returns-in-None
returns-in-None c mark follows is = c.in-None.ensures mark follows (subst (λ page. HasMark page mark follows) (sym c.page_in.ensures) is.has)
