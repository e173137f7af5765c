use Rattle.std.proofs.Common.{◌∙◌, sym, ap, subst, T, refl}
use Rattle.book.specs.Play.{refused_by}
use Rattle.book.proofs.FitLaws.{weighed-fits, weighed-over}
use Rattle.book.proofs.planning.refusal.Goals as goal

pub returns-then-fits : goal.returns-then-fits
returns-then-fits c =
    sym (ap (λ allowed. refused_by allowed c.args.weight) c.in-Fits.is ∙ weighed-fits c.in-Fits.bound c.args.weight (c.if-fits.ensures.0 refl))

pub returns-else-fits : goal.returns-else-fits
returns-else-fits c =
    sym (ap (λ allowed. refused_by allowed c.args.weight) c.in-Fits.is
    ∙ weighed-over c.in-Fits.bound c.args.weight (λ fits. subst T (sym (c.if-fits.ensures.1 fits)) tt))
