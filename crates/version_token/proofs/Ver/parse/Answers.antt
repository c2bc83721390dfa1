use Rattle.std.proofs.Common.{◌≡◌, Some, rules, arith, sym}
use Rattle.std.proofs.lemmas.Grind.{common_steps}
use Rattle.version_token.specs.declared.Ver.{Ver}
use Rattle.version_token.specs.Version.{ver_of}
use Rattle.version_token.proofs.VersionLaws.{ver_of-is}
use Rattle.version_token.proofs.Ver.parse.Goals as goal

pub returns-clause-only : goal.returns-clause-only
returns-clause-only c =
    let v : Ver = record { major = c.in-Ok.version.major; minor = c.in-Ok.version.minor; patch = c.in-Ok.version.patch } in
    let read : Some v ≡ ver_of c.args.text.now = first_of (search rules, grind (arith, common_steps)) in
    (ver_of-is c.args.text.now v (sym read)).0
