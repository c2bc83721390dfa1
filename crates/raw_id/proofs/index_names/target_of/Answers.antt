use Rattle.std.proofs.Common.{◌≡◌, ap, ◌∙◌, arith, rules}
use Rattle.version_token.specs.Version.{IsVer}
use Rattle.raw_id.specs.IndexNames.{target, version_in}
use Rattle.raw_id.proofs.IndexLaws.{version_in-target}
use Rattle.raw_id.proofs.index_names.target_of.Goals as goal

pub returns-clause-reads_back : goal.returns-clause-reads_back
returns-clause-reads_back c =
    let name : c.from_string.result ≡ target c.args.version = search rules in
    let fits : IsVer c.args.version = (omega arith, omega arith, omega arith) in
    ap version_in name ∙ version_in-target c.args.version fits
