-- What each refusal says: the number of the rule that is broken, the layer of the rule, and its place. Assumes nothing.
use Rattle.std.specs.Prelude.{ℕ, List, ◌++◌, codes, decimal}
use Rattle.layout.specs.declared.refusal.Refusal.{Refusal}
use Rattle.layout.specs.declared.refusal.Refusal.TheVariants.{UnfitMemory, OutOfRange, TooFewParities, TooFewCodes, DoesNotFit, NoModule, NoWord, NoSymbol, WrongPhase, AlreadySo, ModuleOut, ChangeoverVoided, WrongCount, BeyondRepair, NotALabel}
use Rattle.layout.specs.declared.refusal.Layer.{Layer}
use Rattle.layout.specs.declared.refusal.Layer.TheVariants as layers

abbrev pub number : Refusal → ℕ
number UnfitMemory = 1
number (OutOfRange n) = 2
number TooFewParities = 3
number TooFewCodes = 4
number (DoesNotFit n) = 5
number (NoModule n) = 6
number (NoWord n) = 7
number (NoSymbol n) = 8
number (WrongPhase n) = 9
number (AlreadySo n) = 10
number (ModuleOut n) = 11
number ChangeoverVoided = 12
number (WrongCount n) = 13
number (BeyondRepair n) = 14
number NotALabel = 15

abbrev pub layer : Refusal → Layer
layer UnfitMemory = layers.Rack
layer (OutOfRange n) = layers.Layout
layer TooFewParities = layers.Layout
layer TooFewCodes = layers.Layout
layer (DoesNotFit n) = layers.Rack
layer (NoModule n) = layers.Pool
layer (NoWord n) = layers.Pool
layer (NoSymbol n) = layers.Pool
layer (WrongPhase n) = layers.Pool
layer (AlreadySo n) = layers.Pool
layer (ModuleOut n) = layers.Pool
layer ChangeoverVoided = layers.Pool
layer (WrongCount n) = layers.Pool
layer (BeyondRepair n) = layers.Coding
layer NotALabel = layers.Layout

-- 0 where the rule names no place
abbrev pub place : Refusal → ℕ
place UnfitMemory = 0
place (OutOfRange n) = n
place TooFewParities = 0
place TooFewCodes = 0
place (DoesNotFit n) = n
place (NoModule n) = n
place (NoWord n) = n
place (NoSymbol n) = n
place (WrongPhase n) = n
place (AlreadySo n) = n
place (ModuleOut n) = n
place ChangeoverVoided = 0
place (WrongCount n) = n
place (BeyondRepair n) = n
place NotALabel = 0

abbrev pub layer_name : Layer → List ℕ
layer_name layers.Rack = codes "rack"
layer_name layers.Layout = codes "layout"
layer_name layers.Pool = codes "pool"
layer_name layers.Coding = codes "coding"

-- a refusal as it is printed
abbrev pub refused_text : Refusal → List ℕ
refused_text e = codes "refused " ++ (decimal (number e) ++ (codes " " ++ (layer_name (layer e) ++ (codes " " ++ decimal (place e)))))
