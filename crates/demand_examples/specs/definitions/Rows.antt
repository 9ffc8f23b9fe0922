-- Document 01, 'Windows and racks to prove', and the same of older bridges, special cycles, seats and bus resets: one table of the definitions, and
-- one theorem over it.
use Rattle.std.specs.Prelude.{Bool, true, false, not, ◌&&◌, cond, List, [], ◌∷◌, ◌++◌, ℕ, ◌+◌, ◌-◌, ◌*◌, ◌/◌, ◌%◌, eqb, length, set}
use Rattle.rack.specs.declared.Kind.{Kind}
use Rattle.rack.specs.declared.Kind.TheVariants.{Device, Bridge, OlderBridge}
use Rattle.rack.specs.declared.Region.{Region}
use Rattle.rack.specs.declared.Node.{Node}
use Rattle.rack.specs.definitions.Node.{is_bridge, no_region, no_node}
use Rattle.seat.specs.definitions.Grants.{Grants, no_grants, acting, granting}
use Rattle.register_header.specs.definitions.Options.{options_of}
use Rattle.register_header.specs.definitions.PciRegs.{COMMAND, STATUS, BASE_ADDRESS}
use Rattle.register_header.specs.definitions.Register.{read_register, write_register}
use Rattle.register_header.specs.definitions.Sizing.{read_back, size_part}
use Rattle.register_image.specs.definitions.Reset.{reset_part}
use Rattle.rack.specs.definitions.Tree.{Tree, host}
use Rattle.rack.specs.definitions.Grow.{tree_with}
use Rattle.register_image.specs.definitions.Image.{Images, images}
use Rattle.claim_window.specs.definitions.Range.{empty, is_empty}
use Rattle.claim_agent.specs.declared.Space.TheVariants.{Memory, Configuration}
use Rattle.claim_agent.specs.definitions.WindowEnds.{window_in}
use Rattle.route_bus.specs.declared.Access.{Access}
use Rattle.route_bus.specs.declared.Sight.{Sight}
use Rattle.route_bus.specs.declared.Sight.TheVariants.{Ends, Crosses}
use Rattle.route_bus.specs.definitions.Look.{look}
use Rattle.route_bus.specs.definitions.Cross.{turns_type0}
use Rattle.check_search.specs.definitions.Report.{Report, Pass, fault, report_number, report_values}
use Rattle.check_search.specs.definitions.Check.{check}
use Rattle.claim_window.specs.declared.Windows.{Windows}
use Rattle.claim_window.specs.definitions.Window.{windows_of}
use Rattle.claim_window.specs.definitions.Inside.{in_memory, in_prefetchable, inside_io}
use Prim.Native.String.{String}
use Rattle.file_record.specs.declared.Event.{Event}
use Rattle.file_record.specs.declared.Event.TheVariants as event
use Rattle.event_run.specs.definitions.Run.{event_run}
use Rattle.print_file.specs.definitions.Output.{answer_line}
use Rattle.rack.specs.definitions.Refusal.{rack_refusal}
use Rattle.bus_reset.specs.definitions.Agreement.{image_refusal}
use Rattle.print_line.specs.definitions.Line.{report_line}
use Rattle.print_line.specs.definitions.Text.{codes_of}

-- a byte put at an offset
pub data Poke : Type 0 where
  byte : ℕ → ℕ → Poke

-- the windows of a bridge, with its VGA addresses where they are on
pub data Window : Type 0 where
  memory : Window
  prefetchable : Window
  io : Window

-- a node of a rack, with registers written over it at reset
pub data Fitted : Type 0 where
  fitted : Node → List Poke → Fitted

-- a row of the table
pub data Row : Type 0 where
  -- a region's kind and exponent; what its register reads back after all ones, and its size
  sizes : ℕ → ℕ → ℕ → ℕ → Row
  -- a kind of bridge and a window; registers written over it at reset; addresses that are in it, and addresses that are not
  holds_of : Kind → Window → List Poke → List ℕ → List ℕ → Row
  -- registers written over a bridge at reset that leave a window without an address
  none_in : Kind → Window → List Poke → Row
  -- a header kind and a register; what it reads after all ones were written at reset
  reads : Kind → ℕ → ℕ → Row
  -- registers written over a bridge on the root bus; a bus number that it takes across as Type 1
  crosses : List Poke → ℕ → Row
  -- a header kind; a status, what is written to it, and the status then
  clears : Kind → ℕ → ℕ → ℕ → Row
  -- the nodes of a rack without host memory; an event, and the line that is printed for it as event 1
  ends : List Fitted → Event → String → Row
  -- a seat and its mask at node 0; the same of an event of that seat
  acts : ℕ → ℕ → List Fitted → Event → String → Row
  -- the nodes of a rack without host memory, which is accepted; what its check says, and the line that is printed as event 1
  checks : List Fitted → Report → String → Row

-- a node of a kind on a bus, with its device number; its first region is given
abbrev pub node_on : Kind → ℕ → ℕ → Region → Node
node_on k bus d g =
    record {
      kind = k;
      parent = bus;
      device = d;
      vendor_id = 0;
      device_id = 0;
      regions = g ∷ no_region ∷ no_region ∷ [];
    }

-- one alone on the root bus
abbrev pub node : Kind → Region → Node
node k g = node_on k host 0 g

abbrev pub region : ℕ → ℕ → Region
region kind e = record { kind = kind; exponent = e }

abbrev pub device : ℕ → ℕ → Node
device kind e = node Device (region kind e)

-- a node at reset with bytes put
abbrev pub put : Node → List Poke → List ℕ
put n [] = reset_part n
put n (byte at v ∷ ps) = set (put n ps) at v

-- the windows of a bridge so
abbrev pub windows : Kind → List Poke → Windows
windows k ps = windows_of (options_of k) (put (node k no_region) ps)

abbrev pub answer : Window → Windows → ℕ → Bool
answer memory ws a = in_memory ws a
answer prefetchable ws a = in_prefetchable ws a
answer io ws a = inside_io ws a

-- a window's number, by which its ends are asked for
abbrev pub number : Window → ℕ
number memory = 0
number prefetchable = 1
number io = 2

-- every address of a list has the answer
abbrev pub each : Window → Windows → Bool → List ℕ → Bool
each w ws want [] = true
each w ws want (a ∷ rest) = cond want (answer w ws a) (not (answer w ws a)) && each w ws want rest

-- a rack of a bridge alone, and a configuration read of a bus number
abbrev pub alone : Tree
alone = tree_with empty (λ i. node Bridge no_region) 1

abbrev pub reading : ℕ → Access
reading bus =
    record { space = Configuration; write = false; address = bus; devfn = 0; register = 0; enables = 0; «data» = 0 }

abbrev pub taken_by : Sight → ℕ → Bool
taken_by (Ends e) g = false
taken_by (Crosses k) g = eqb k g

abbrev pub as_type1 : List ℕ → ℕ → Bool
as_type1 part bus =
    taken_by (look alone (images part []) (reading bus) host host false).answer 0
    && not (turns_type0 alone (images part []) (reading bus) host 0)

-- a rack of such nodes
abbrev pub node_in : List Fitted → ℕ → Node
node_in [] i = no_node
node_in (fitted n ps ∷ fs) i = cond (eqb i 0) n (node_in fs (i - 1))

abbrev pub rack_of : List Fitted → Tree
rack_of fs = tree_with empty (node_in fs) (length fs)

-- the image of its bridges, and of its devices
abbrev pub image_in : Bool → List Fitted → List ℕ
image_in b [] = []
image_in b (fitted n ps ∷ fs) = cond (cond b (is_bridge n.kind) (not (is_bridge n.kind))) (put n ps ++ image_in b fs) (image_in b fs)

abbrev pub images_of : List Fitted → Images
images_of fs = images (image_in true fs) (image_in false fs)

-- two reports are the same: their numbers and values
abbrev pub same_values : List ℕ → List ℕ → Bool
same_values [] [] = true
same_values [] (y ∷ ys) = false
same_values (x ∷ xs) [] = false
same_values (x ∷ xs) (y ∷ ys) = eqb x y && same_values xs ys

abbrev pub same_report : Report → Report → Bool
same_report r s = eqb (report_number r) (report_number s) && same_values (report_values r) (report_values s)

-- a node at reset, but for its status
abbrev pub with_status : Node → ℕ → List ℕ
with_status n status = set (set (reset_part n) STATUS (status % 256)) (STATUS + 1) (status / 256)

-- the status after a write to its upper two bytes of the dword at 04h
abbrev pub status_after : Node → ℕ → ℕ → ℕ
status_after n status put = read_register (write_register n (with_status n status) COMMAND 12 (put * 65536)) COMMAND / 65536

-- one seat record, for node 0
abbrev pub granted_at0 : ℕ → ℕ → Grants
granted_at0 seat mask = granting no_grants (record { seat = seat; node = 0; mask = mask })

abbrev pub holds : Row → Bool
holds (sizes kind e seen size) =
    eqb (read_back (device kind e) (reset_part (device kind e)) BASE_ADDRESS) seen
    && eqb (size_part (device kind e) (reset_part (device kind e)) kind BASE_ADDRESS) size
holds (holds_of k w ps ins outs) = each w (windows k ps) true ins && each w (windows k ps) false outs
holds (none_in k w ps) = is_empty (window_in (windows k ps) (number w))
holds (reads k register seen) = eqb (read_back (node k no_region) (reset_part (node k no_region)) register) seen
holds (crosses ps bus) = as_type1 (put (node Bridge no_region) ps) bus
holds (clears k status put after) = eqb (status_after (node k no_region) status put) after
holds (ends fs e text) = same_values (answer_line 1 (event_run (rack_of fs) (acting no_grants 0) (images_of fs) e).answer) (codes_of text)
holds (acts seat mask fs e text) =
    same_values (answer_line 1 (event_run (rack_of fs) (acting (granted_at0 seat mask) seat) (images_of fs) e).answer) (codes_of text)
holds (checks fs r text) =
    eqb (rack_refusal (rack_of fs)) 0 && eqb (image_refusal (rack_of fs) (images_of fs)) 0
    && same_report (check (rack_of fs) (images_of fs)) r && same_values (report_line 1 (check (rack_of fs) (images_of fs))) (codes_of text)

abbrev pub all : List Row → Bool
all [] = true
all (r ∷ rs) = holds r && all rs

-- items 11 and 12: a bridge on the root bus with command 4, and below it a device with command 2 and a region of e = 12 at
-- 90000000h; with another device that has no region, and without
abbrev pub two : List Fitted
two =
    fitted (node_on Bridge host 0 no_region) (byte 0x04 0x04 ∷ [])
    ∷ fitted (node_on Device 0 0 (region 2 12)) (byte 0x04 0x02 ∷ byte 0x13 0x90 ∷ [])
    ∷ []

abbrev pub three : List Fitted
three = two ++ (fitted (node_on Device 0 1 no_region) [] ∷ [])

-- a bridge on the root bus with secondary 5 and subordinate 6
abbrev pub carrying : List Fitted
carrying = fitted (node_on Bridge host 0 no_region) (byte 0x19 0x05 ∷ byte 0x1a 0x06 ∷ []) ∷ []

-- and a card below it
abbrev pub below : List Fitted
below = carrying ++ (fitted (node_on Device 0 0 no_region) [] ∷ [])

-- the same with bit 6 of bridge control set, of either kind of bridge, so that the card is held
abbrev pub resetting : Kind → List Fitted
resetting kind =
    fitted (node_on kind host 0 no_region) (byte 0x19 0x05 ∷ byte 0x1a 0x06 ∷ byte 0x3e 0x40 ∷ []) ∷ fitted (node_on Device 0 0 no_region) [] ∷ []

-- the table, each row with its item's number
abbrev pub rows : List Row
rows =
    -- 1: 'I/O base and limit 21h: 2000h, 2FFFh in; 3000h out'
    holds_of Bridge io (byte 0x1c 0x21 ∷ byte 0x1d 0x21 ∷ []) (0x2000 ∷ 0x2FFF ∷ []) (0x3000 ∷ [])
    -- 2: 'ISA too: 20FFh, 2400h in; 2100h out'
    ∷ holds_of Bridge io (byte 0x1c 0x21 ∷ byte 0x1d 0x21 ∷ byte 0x3e 0x04 ∷ []) (0x20FF ∷ 0x2400 ∷ []) (0x2100 ∷ [])
    -- 3: 'Upper I/O 0001h too: 12100h in'
    ∷ holds_of Bridge io (byte 0x1c 0x21 ∷ byte 0x1d 0x21 ∷ byte 0x3e 0x04 ∷ byte 0x30 0x01 ∷ byte 0x32 0x01 ∷ []) (0x12100 ∷ []) []
    -- 4: 'VGA on, ISA off, I/O base F1h and limit 01h (empty), upper registers 0: 3BBh, 3C0h, 3DFh, 7B0h in; 3BCh, 3E0h out'
    ∷ holds_of Bridge io (byte 0x1c 0xf1 ∷ byte 0x1d 0x01 ∷ byte 0x3e 0x08 ∷ []) (0x3BB ∷ 0x3C0 ∷ 0x3DF ∷ 0x7B0 ∷ []) (0x3BC ∷ 0x3E0 ∷ [])
    -- 4: '(empty)': VGA addresses are outside base and limit
    ∷ none_in Bridge io (byte 0x1c 0xf1 ∷ byte 0x1d 0x01 ∷ byte 0x3e 0x08 ∷ [])
    -- 4: 'with bit 4, 7B0h out'
    ∷ holds_of Bridge io (byte 0x1c 0xf1 ∷ byte 0x1d 0x01 ∷ byte 0x3e 0x18 ∷ []) (0x3BB ∷ 0x3C0 ∷ 0x3DF ∷ []) (0x7B0 ∷ 0x3BC ∷ 0x3E0 ∷ [])
    -- 5: 'Memory 8000h, 8000h: 80000000h, 800FFFFFh in; 7FFFFFFFh, 80100000h out'
    ∷ holds_of Bridge memory (byte 0x21 0x80 ∷ byte 0x23 0x80 ∷ []) (0x80000000 ∷ 0x800FFFFF ∷ []) (0x7FFFFFFF ∷ 0x80100000 ∷ [])
    -- 6: 'Memory 8010h, 8000h: empty'
    ∷ holds_of Bridge memory (byte 0x20 0x10 ∷ byte 0x21 0x80 ∷ byte 0x23 0x80 ∷ []) []
    (0x7FFFFFFF ∷ 0x80000000 ∷ 0x800FFFFF ∷ 0x80100000 ∷ 0x801FFFFF ∷ [])
    ∷ none_in Bridge memory (byte 0x20 0x10 ∷ byte 0x21 0x80 ∷ byte 0x23 0x80 ∷ [])
    -- 7: 'Prefetchable 0001h, upper 1, both: 100000000h in, 100100000h out'
    ∷ holds_of Bridge prefetchable (byte 0x24 0x01 ∷ byte 0x26 0x01 ∷ byte 0x28 0x01 ∷ byte 0x2c 0x01 ∷ []) (0x100000000 ∷ []) (0x100100000 ∷ [])
    ∷ sizes 2 12 0xfffff000 0x1000  -- 8: '32-bit, e = 12: read back FFFFF000h, size 1000h'
    ∷ clears Bridge 0xa000 0x2000 0x8000  -- 9: 'Status A000h, written 2000h: 8000h', of a bridge
    ∷ clears Device 0xa000 0x2000 0x8000  -- 9, of a device
    ∷ crosses (byte 0x19 0x00 ∷ byte 0x1a 0x05 ∷ []) 3  -- 10: 'Secondary 0, subordinate 5: bus 3 crosses as Type 1'
    -- 11: '`fault 0 memory 0000000090000000 2 0 1`'
    ∷ checks three (fault 0 Memory 0x90000000 2 0 1) "1 fault 0 memory 0000000090000000 2 0 1\n"
    -- 12: 'The same without device 2: pass'
    ∷ checks two Pass "1 pass\n"
    -- 02, E4: 'A configuration write to device 31, function 7, register 0 is one', with no byte enabled too
    ∷ ends carrying (event.Write 0 0xff 0 0xf 0) "1 special 0 255\n"
    ∷ ends carrying (event.Write 5 0xff 0 0 0) "1 special 1 0\n"
    -- a bus number that nobody carries, or that nobody below has
    ∷ ends carrying (event.Write 4 0xff 0 0xf 0) "1 unclaimed 0 255 abort\n"
    ∷ ends carrying (event.Write 6 0xff 0 0xf 0) "1 unclaimed 1 0 done\n"
    -- a read, function 0 and register 4 are none
    ∷ ends carrying (event.Read 5 0xff 0) "1 unclaimed 1 0 done\n"
    ∷ ends carrying (event.Write 5 0xf8 0 0xf 0) "1 unclaimed 1 0 done\n"
    ∷ ends carrying (event.Write 5 0xff 4 0xf 0) "1 unclaimed 1 0 done\n"
    -- 02, E5: 'configuration finds nobody on a held bus, though a special cycle still ends as one'; the card is there without the bit
    ∷ ends below (event.Read 5 0 0x3c) "1 data 1 00000000\n"
    ∷ ends (resetting Bridge) (event.Read 5 0 0x3c) "1 unclaimed 1 0 done\n"
    ∷ ends (resetting OlderBridge) (event.Write 5 0 4 0xf 6) "1 unclaimed 1 0 done\n"
    ∷ ends (resetting Bridge) (event.Write 5 0xff 0 0xf 0) "1 special 1 0\n"
    -- 'A held initiator's access is `silent`'
    ∷ ends (resetting Bridge) (event.Memory 1 0 0x1000) "1 silent\n"
    -- 02, E11: 'I/O base and limit reset to 00 with 16-bit I/O'
    ∷ holds_of OlderBridge io [] (0x0 ∷ 0xFFF ∷ []) (0x1000 ∷ 0x10000 ∷ [])
    -- 'I/O at 10000h or above is outside the window', whatever 30h to 33h hold; of a bridge it is in
    ∷ holds_of OlderBridge io (byte 0x1c 0x20 ∷ byte 0x1d 0x20 ∷ byte 0x30 0x01 ∷ byte 0x32 0x01 ∷ []) (0x2000 ∷ 0x2FFF ∷ []) (0x3000 ∷ 0x12000 ∷ [])
    ∷ holds_of Bridge io (byte 0x1c 0x21 ∷ byte 0x1d 0x21 ∷ byte 0x30 0x01 ∷ byte 0x32 0x01 ∷ []) (0x12000 ∷ 0x12FFF ∷ []) (0x2000 ∷ 0x13000 ∷ [])
    -- 'prefetchable base and limit reset to 0000h', and below 4 GiB whatever 28h to 2Fh hold
    ∷ holds_of OlderBridge prefetchable [] (0x0 ∷ 0xFFFFF ∷ []) (0x100000 ∷ [])
    ∷ holds_of OlderBridge prefetchable (byte 0x28 0x01 ∷ byte 0x2c 0x01 ∷ []) (0x0 ∷ 0xFFFFF ∷ []) (0x100000 ∷ 0x100000000 ∷ [])
    -- 'VGA 16-bit decode .. is fixed 0': 7B0h is in, bit 4 or not
    ∷ holds_of OlderBridge io (byte 0x1c 0xf0 ∷ byte 0x3e 0x18 ∷ []) (0x3BB ∷ 0x3C0 ∷ 0x3DF ∷ 0x7B0 ∷ []) (0x3BC ∷ 0x3E0 ∷ 0x103B0 ∷ [])
    -- every option's register, written and read back: of a bridge, and of an older one
    ∷ reads Bridge 0x1c 0x0000f1f1 ∷ reads OlderBridge 0x1c 0x0000f0f0
    ∷ reads Bridge 0x24 0xfff1fff1 ∷ reads OlderBridge 0x24 0xfff0fff0
    ∷ reads Bridge 0x28 0xffffffff ∷ reads OlderBridge 0x28 0x00000000
    ∷ reads Bridge 0x2c 0xffffffff ∷ reads OlderBridge 0x2c 0x00000000
    ∷ reads Bridge 0x30 0xffffffff ∷ reads OlderBridge 0x30 0x00000000
    ∷ reads Bridge 0x3c 0x007f00ff ∷ reads OlderBridge 0x3c 0x006f00ff
    ∷ clears OlderBridge 0xa000 0x2000 0x8000  -- 9, of an older bridge
    -- 02, E1: 'bit i for dword i': bit 6 is that of 18h
    ∷ acts 3 0x0040 carrying (event.Write 0 0 0x18 0xf 0) "1 stored 0\n" ∷ acts 3 0x0040 carrying (event.Write 0 0 0x1c 0xf 0) "1 denied 0\n"
    -- no byte enabled is denied too; 'Reads, and writes to 40h and above, are never denied'
    ∷ acts 3 0 carrying (event.Write 0 0 0x3c 0 0) "1 denied 0\n" ∷ acts 3 0 carrying (event.Write 0 0 0x40 0xf 0) "1 stored 0\n"
    ∷ acts 3 0 carrying (event.Read 0 0 0x18) "1 data 0 00060500\n"
    -- 'seat 0, which may write all'; no record for the node is an empty grant
    ∷ acts 0 0 carrying (event.Write 0 0 0x18 0xf 0) "1 stored 0\n" ∷ acts 3 0xffff below (event.Write 5 0 4 0xf 0) "1 denied 1\n"
    -- what reaches no node is not denied
    ∷ acts 3 0 carrying (event.Write 5 0 4 0xf 0) "1 unclaimed 1 0 done\n" ∷ acts 3 0 carrying (event.Write 5 0xff 0 0xf 0) "1 special 1 0\n"
    -- 'A seat event prints `seat` and its number'
    ∷ acts 3 0 carrying (event.Seat 0) "1 seat 0\n"
    ∷ []
