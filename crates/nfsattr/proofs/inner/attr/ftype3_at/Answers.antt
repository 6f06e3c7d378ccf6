use borrow.Author.Rules.{rules}
use Rattle.xdr.specs.Laws.Tags.{tag-lost, tag-none, tag_is}
use Rattle.nfsattr.specs.Meaning.Attr.{ftype_number, ftypes, each_ftype, ftype}
use Rattle.xdr.specs.Laws.Answers.{tries, exit}
use Rattle.nfsattr.proofs.inner.attr.ftype3_at.Goals as goal

pub returns-in_err-v : goal.returns-in_err-v
unfolding ftype
returns-in_err-v c = search (tag-lost ftype_number ftypes each_ftype, tag-none ftype_number ftypes each_ftype, tag_is ftype_number ftypes each_ftype, rules, tries, exit c.from_residual.ensures.1)

pub returns-in_default : goal.returns-in_default
unfolding ftype
returns-in_default c = search (tag-lost ftype_number ftypes each_ftype, tag-none ftype_number ftypes each_ftype, tag_is ftype_number ftypes each_ftype, rules, tries)

pub returns : goal.returns
unfolding ftype
returns c = search (tag-lost ftype_number ftypes each_ftype, tag-none ftype_number ftypes each_ftype, tag_is ftype_number ftypes each_ftype, rules, tries)
