use Rattle.std.proofs.Common.{ap}
use Rattle.std.specs.Prelude.{option_and_then, option_map}
use Rattle.cli_spec.specs.CommandLine.{forms}
use Rattle.cli_args.specs.Requests.{arguments_of, asked, if_whole}
use Rattle.cli_args.proofs.ArgumentsReadLemmas.{name_unknown}
use Rattle.cli_args.proofs.request_parser.request_by.Goals as goal

-- src/request_parser.rt:106:1
pub returns-in_default : goal.returns-in_default
returns-in_default c =
    ap (λ o. option_and_then if_whole (option_map (λ form. asked form.arguments form.asks (arguments_of c.args.arguments.now)) o))
    (name_unknown c.args.command.now forms (
      c.in_default.not-check,
      (
        c.in_default.not-show,
        (
          c.in_default.not-get,
          (
            c.in_default.not-edit,
            (
              c.in_default.not-trees,
              (
                c.in_default.not-dump,
                (
                  c.in_default.not-same,
                  (
                    c.in_default.not-build,
                    (c.in_default.not-verify, (c.in_default.not-gen, (c.in_default.not-scan, tt))),
                  ),
                ),
              ),
            ),
          ),
        ),
      ),
    ))
