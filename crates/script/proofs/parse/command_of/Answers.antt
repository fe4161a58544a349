use Rattle.std.proofs.Common.{sym}
use Rattle.script.specs.declared.command.Name.TheVariants as Name
use Rattle.script.proofs.Commands.{no_numbers}
use Rattle.script.proofs.Numerals.{numbers_are}
use Rattle.script.proofs.parse.command_of.Goals as goal

pub returns-in_err-order-in-Plan : goal.returns-in_err-order-in-Plan
returns-in_err-order-in-Plan c = no_numbers Name.Plan c.args.name 6 c.args.text.now c.from_residual.result (λ g. g) c.in-Plan.is c.in_err-order-in-Plan.ensures c.from_residual.ensures

pub returns-in_ok-order-in-Plan : goal.returns-in_ok-order-in-Plan
returns-in_ok-order-in-Plan c = let h = c.in_ok-order-in-Plan.ensures in (sym c.in-Plan.is, numbers_are 6 c.args.text.now c.in_ok-order-in-Plan.field-0 h.0 h.1)

pub returns-in_err-numbers-in-Map : goal.returns-in_err-numbers-in-Map
returns-in_err-numbers-in-Map c = no_numbers Name.Map c.args.name 0 c.args.text.now c.from_residual-in_err-numbers-in-Map.result (λ g. g) c.in-Map.is c.in_err-numbers-in-Map.ensures c.from_residual-in_err-numbers-in-Map.ensures

pub returns-in_err-module-in-Get : goal.returns-in_err-module-in-Get
returns-in_err-module-in-Get c = no_numbers Name.Get c.args.name 3 c.args.text.now c.from_residual-in_err-module-in-Get.result (λ g. g) c.in-Get.is c.in_err-module-in-Get.ensures c.from_residual-in_err-module-in-Get.ensures

pub returns-in_ok-module-in-Get : goal.returns-in_ok-module-in-Get
returns-in_ok-module-in-Get c = let h = c.in_ok-module-in-Get.ensures in (sym c.in-Get.is, numbers_are 3 c.args.text.now c.in_ok-module-in-Get.field-0 h.0 h.1)

pub returns-in_err-module-in-Put : goal.returns-in_err-module-in-Put
returns-in_err-module-in-Put c = no_numbers Name.Put c.args.name 4 c.args.text.now c.from_residual-in_err-module-in-Put.result (λ g. g) c.in-Put.is c.in_err-module-in-Put.ensures c.from_residual-in_err-module-in-Put.ensures

pub returns-in_ok-module-in-Put : goal.returns-in_ok-module-in-Put
returns-in_ok-module-in-Put c = let h = c.in_ok-module-in-Put.ensures in (sym c.in-Put.is, numbers_are 4 c.args.text.now c.in_ok-module-in-Put.field-0 h.0 h.1)

pub returns-in_err-module-in-PullModule : goal.returns-in_err-module-in-PullModule
returns-in_err-module-in-PullModule c = no_numbers Name.PullModule c.args.name 1 c.args.text.now c.from_residual-in_err-module-in-PullModule.result (λ g. g) c.in-PullModule.is c.in_err-module-in-PullModule.ensures c.from_residual-in_err-module-in-PullModule.ensures

pub returns-in_ok-module-in-PullModule : goal.returns-in_ok-module-in-PullModule
returns-in_ok-module-in-PullModule c = let h = c.in_ok-module-in-PullModule.ensures in (sym c.in-PullModule.is, numbers_are 1 c.args.text.now c.in_ok-module-in-PullModule.field-0 h.0 h.1)

pub returns-in_err-module-in-FitModule : goal.returns-in_err-module-in-FitModule
returns-in_err-module-in-FitModule c = no_numbers Name.FitModule c.args.name 1 c.args.text.now c.from_residual-in_err-module-in-FitModule.result (λ g. g) c.in-FitModule.is c.in_err-module-in-FitModule.ensures c.from_residual-in_err-module-in-FitModule.ensures

pub returns-in_ok-module-in-FitModule : goal.returns-in_ok-module-in-FitModule
returns-in_ok-module-in-FitModule c = let h = c.in_ok-module-in-FitModule.ensures in (sym c.in-FitModule.is, numbers_are 1 c.args.text.now c.in_ok-module-in-FitModule.field-0 h.0 h.1)

pub returns-in_err-module-in-Ask : goal.returns-in_err-module-in-Ask
returns-in_err-module-in-Ask c = no_numbers Name.Ask c.args.name 1 c.args.text.now c.from_residual-in_err-module-in-Ask.result (λ g. g) c.in-Ask.is c.in_err-module-in-Ask.ensures c.from_residual-in_err-module-in-Ask.ensures

pub returns-in_ok-module-in-Ask : goal.returns-in_ok-module-in-Ask
returns-in_ok-module-in-Ask c = let h = c.in_ok-module-in-Ask.ensures in (sym c.in-Ask.is, numbers_are 1 c.args.text.now c.in_ok-module-in-Ask.field-0 h.0 h.1)

pub returns-in_err-chunk-in-Read : goal.returns-in_err-chunk-in-Read
returns-in_err-chunk-in-Read c = no_numbers Name.Read c.args.name 2 c.args.text.now c.from_residual-in_err-chunk-in-Read.result (λ g. g) c.in-Read.is c.in_err-chunk-in-Read.ensures c.from_residual-in_err-chunk-in-Read.ensures

pub returns-in_ok-chunk-in-Read : goal.returns-in_ok-chunk-in-Read
returns-in_ok-chunk-in-Read c = let h = c.in_ok-chunk-in-Read.ensures in (sym c.in-Read.is, numbers_are 2 c.args.text.now c.in_ok-chunk-in-Read.field-0 h.0 h.1)

pub returns-in_err-chunk-in-Write : goal.returns-in_err-chunk-in-Write
returns-in_err-chunk-in-Write c = no_numbers Name.Write c.args.name 3 c.args.text.now c.from_residual-in_err-chunk-in-Write.result (λ g. g) c.in-Write.is c.in_err-chunk-in-Write.ensures c.from_residual-in_err-chunk-in-Write.ensures

pub returns-in_ok-chunk-in-Write : goal.returns-in_ok-chunk-in-Write
returns-in_ok-chunk-in-Write c = let h = c.in_ok-chunk-in-Write.ensures in (sym c.in-Write.is, numbers_are 3 c.args.text.now c.in_ok-chunk-in-Write.field-0 h.0 h.1)

pub returns-in_err-module-in-Pull : goal.returns-in_err-module-in-Pull
returns-in_err-module-in-Pull c = no_numbers Name.Pull c.args.name 1 c.args.text.now c.from_residual-in_err-module-in-Pull.result (λ g. g) c.in-Pull.is c.in_err-module-in-Pull.ensures c.from_residual-in_err-module-in-Pull.ensures

pub returns-in_ok-module-in-Pull : goal.returns-in_ok-module-in-Pull
returns-in_ok-module-in-Pull c = let h = c.in_ok-module-in-Pull.ensures in (sym c.in-Pull.is, numbers_are 1 c.args.text.now c.in_ok-module-in-Pull.field-0 h.0 h.1)

pub returns-in_err-module-in-Refit : goal.returns-in_err-module-in-Refit
returns-in_err-module-in-Refit c = no_numbers Name.Refit c.args.name 1 c.args.text.now c.from_residual-in_err-module-in-Refit.result (λ g. g) c.in-Refit.is c.in_err-module-in-Refit.ensures c.from_residual-in_err-module-in-Refit.ensures

pub returns-in_ok-module-in-Refit : goal.returns-in_ok-module-in-Refit
returns-in_ok-module-in-Refit c = let h = c.in_ok-module-in-Refit.ensures in (sym c.in-Refit.is, numbers_are 1 c.args.text.now c.in_ok-module-in-Refit.field-0 h.0 h.1)

pub returns-in_err-numbers-in-Begin : goal.returns-in_err-numbers-in-Begin
returns-in_err-numbers-in-Begin c = no_numbers Name.Begin c.args.name 0 c.args.text.now c.from_residual-in_err-numbers-in-Begin.result (λ g. g) c.in-Begin.is c.in_err-numbers-in-Begin.ensures c.from_residual-in_err-numbers-in-Begin.ensures

pub returns-in_err-numbers-in-Carry : goal.returns-in_err-numbers-in-Carry
returns-in_err-numbers-in-Carry c = no_numbers Name.Carry c.args.name 0 c.args.text.now c.from_residual-in_err-numbers-in-Carry.result (λ g. g) c.in-Carry.is c.in_err-numbers-in-Carry.ensures c.from_residual-in_err-numbers-in-Carry.ensures

pub returns-in_err-numbers-in-Ready : goal.returns-in_err-numbers-in-Ready
returns-in_err-numbers-in-Ready c = no_numbers Name.Ready c.args.name 0 c.args.text.now c.from_residual-in_err-numbers-in-Ready.result (λ g. g) c.in-Ready.is c.in_err-numbers-in-Ready.ensures c.from_residual-in_err-numbers-in-Ready.ensures

pub returns-in_err-numbers-in-Close : goal.returns-in_err-numbers-in-Close
returns-in_err-numbers-in-Close c = no_numbers Name.Close c.args.name 0 c.args.text.now c.from_residual-in_err-numbers-in-Close.result (λ g. g) c.in-Close.is c.in_err-numbers-in-Close.ensures c.from_residual-in_err-numbers-in-Close.ensures

pub returns-in_err-numbers-in-Drop : goal.returns-in_err-numbers-in-Drop
returns-in_err-numbers-in-Drop c = no_numbers Name.Drop c.args.name 0 c.args.text.now c.from_residual-in_err-numbers-in-Drop.result (λ g. g) c.in-Drop.is c.in_err-numbers-in-Drop.ensures c.from_residual-in_err-numbers-in-Drop.ensures

pub returns-in_err-numbers-in-Show : goal.returns-in_err-numbers-in-Show
returns-in_err-numbers-in-Show c = no_numbers Name.Show c.args.name 0 c.args.text.now c.from_residual-in_err-numbers-in-Show.result (λ g. g) c.in-Show.is c.in_err-numbers-in-Show.ensures c.from_residual-in_err-numbers-in-Show.ensures
