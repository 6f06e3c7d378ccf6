use Rattle.xdr.specs.Laws.Fixed.{of_size}
use Rattle.nfsattr.specs.Laws.Sizes.{nfsstat-fixed, ftype-fixed, specdata-fixed, nfstime-fixed, fattr-fixed, wcc-attr-fixed}
use Rattle.nfsattr.proofs.sizes.fixed_sizes.Statement.{statement}
use Rattle.nfsattr.proofs.sizes.fixed_sizes.Tie as tie

returns : tie.Need-returns
returns c =
    record {
      nfsstat3 = of_size nfsstat-fixed;
      ftype3 = of_size ftype-fixed;
      specdata3 = of_size specdata-fixed;
      nfstime3 = of_size nfstime-fixed;
      fattr3 = of_size fattr-fixed;
      wcc_attr = of_size wcc-attr-fixed;
    }

pub fixed_sizes_spec : {M : Type 1} → statement M
fixed_sizes_spec = tie.close (tie.spec returns)
