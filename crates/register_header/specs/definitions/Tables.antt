-- The header tables, byte by byte. 01, 'Registers': 'Per register byte there is a fixed mask of writable bits and of bits
-- cleared by writing 1; all other bits keep their reset value'. A header kind is one row of each.
use Rattle.std.specs.Prelude.{ℕ, List, [], ◌∷◌}
use Rattle.rack.specs.declared.Kind.{Kind}
use Rattle.rack.specs.declared.Kind.TheVariants.{Bridge, OlderBridge, Device}

-- a bridge's writable bits. 02, E5: 'bit 6 of bridge control .. becomes writable'
abbrev pub bridge_write : List ℕ
bridge_write =
    0x00 ∷ 0x00 ∷ 0x00 ∷ 0x00  -- 00h VENDOR_ID, DEVICE_ID
    ∷ 0x47 ∷ 0x01 ∷ 0x00 ∷ 0x00  -- 04h COMMAND, STATUS
    ∷ 0x00 ∷ 0x00 ∷ 0x00 ∷ 0x00  -- 08h REVISION_ID, CLASS_PROG, CLASS_DEVICE
    ∷ 0xff ∷ 0xff ∷ 0x00 ∷ 0x00  -- 0Ch CACHE_LINE_SIZE, LATENCY_TIMER, HEADER_TYPE, BIST
    ∷ 0x00 ∷ 0x00 ∷ 0x00 ∷ 0x00  -- 10h BASE_ADDRESS_0
    ∷ 0x00 ∷ 0x00 ∷ 0x00 ∷ 0x00  -- 14h BASE_ADDRESS_1
    ∷ 0xff ∷ 0xff ∷ 0xff ∷ 0xff  -- 18h PRIMARY_BUS, SECONDARY_BUS, SUBORDINATE_BUS, SEC_LATENCY_TIMER
    ∷ 0xf0 ∷ 0xf0 ∷ 0x00 ∷ 0x00  -- 1Ch IO_BASE, IO_LIMIT, SEC_STATUS
    ∷ 0xf0 ∷ 0xff ∷ 0xf0 ∷ 0xff  -- 20h MEMORY_BASE, MEMORY_LIMIT
    ∷ 0xf0 ∷ 0xff ∷ 0xf0 ∷ 0xff  -- 24h PREF_MEMORY_BASE, PREF_MEMORY_LIMIT
    ∷ 0xff ∷ 0xff ∷ 0xff ∷ 0xff  -- 28h PREF_BASE_UPPER32
    ∷ 0xff ∷ 0xff ∷ 0xff ∷ 0xff  -- 2Ch PREF_LIMIT_UPPER32
    ∷ 0xff ∷ 0xff ∷ 0xff ∷ 0xff  -- 30h IO_BASE_UPPER16, IO_LIMIT_UPPER16
    ∷ 0x00 ∷ 0x00 ∷ 0x00 ∷ 0x00  -- 34h CAPABILITY_LIST
    ∷ 0x00 ∷ 0x00 ∷ 0x00 ∷ 0x00  -- 38h ROM_ADDRESS1
    ∷ 0xff ∷ 0x00 ∷ 0x7f ∷ 0x00 ∷ []  -- 3Ch INTERRUPT_LINE, INTERRUPT_PIN, BRIDGE_CONTROL

-- a bridge's bits cleared by writing 1, of either kind: both statuses, F900h
abbrev pub bridge_clear : List ℕ
bridge_clear =
    0x00 ∷ 0x00 ∷ 0x00 ∷ 0x00  -- 00h VENDOR_ID, DEVICE_ID
    ∷ 0x00 ∷ 0x00 ∷ 0x00 ∷ 0xf9  -- 04h COMMAND, STATUS
    ∷ 0x00 ∷ 0x00 ∷ 0x00 ∷ 0x00  -- 08h REVISION_ID, CLASS_PROG, CLASS_DEVICE
    ∷ 0x00 ∷ 0x00 ∷ 0x00 ∷ 0x00  -- 0Ch CACHE_LINE_SIZE, LATENCY_TIMER, HEADER_TYPE, BIST
    ∷ 0x00 ∷ 0x00 ∷ 0x00 ∷ 0x00  -- 10h BASE_ADDRESS_0
    ∷ 0x00 ∷ 0x00 ∷ 0x00 ∷ 0x00  -- 14h BASE_ADDRESS_1
    ∷ 0x00 ∷ 0x00 ∷ 0x00 ∷ 0x00  -- 18h PRIMARY_BUS, SECONDARY_BUS, SUBORDINATE_BUS, SEC_LATENCY_TIMER
    ∷ 0x00 ∷ 0x00 ∷ 0x00 ∷ 0xf9  -- 1Ch IO_BASE, IO_LIMIT, SEC_STATUS
    ∷ 0x00 ∷ 0x00 ∷ 0x00 ∷ 0x00  -- 20h MEMORY_BASE, MEMORY_LIMIT
    ∷ 0x00 ∷ 0x00 ∷ 0x00 ∷ 0x00  -- 24h PREF_MEMORY_BASE, PREF_MEMORY_LIMIT
    ∷ 0x00 ∷ 0x00 ∷ 0x00 ∷ 0x00  -- 28h PREF_BASE_UPPER32
    ∷ 0x00 ∷ 0x00 ∷ 0x00 ∷ 0x00  -- 2Ch PREF_LIMIT_UPPER32
    ∷ 0x00 ∷ 0x00 ∷ 0x00 ∷ 0x00  -- 30h IO_BASE_UPPER16, IO_LIMIT_UPPER16
    ∷ 0x00 ∷ 0x00 ∷ 0x00 ∷ 0x00  -- 34h CAPABILITY_LIST
    ∷ 0x00 ∷ 0x00 ∷ 0x00 ∷ 0x00  -- 38h ROM_ADDRESS1
    ∷ 0x00 ∷ 0x00 ∷ 0x00 ∷ 0x00 ∷ []  -- 3Ch INTERRUPT_LINE, INTERRUPT_PIN, BRIDGE_CONTROL

-- a bridge's reset values, its IDs aside
abbrev pub bridge_reset : List ℕ
bridge_reset =
    0x00 ∷ 0x00 ∷ 0x00 ∷ 0x00  -- 00h VENDOR_ID, DEVICE_ID
    ∷ 0x00 ∷ 0x00 ∷ 0x00 ∷ 0x00  -- 04h COMMAND, STATUS
    ∷ 0x00 ∷ 0x00 ∷ 0x04 ∷ 0x06  -- 08h REVISION_ID, CLASS_PROG, CLASS_DEVICE
    ∷ 0x00 ∷ 0x00 ∷ 0x01 ∷ 0x00  -- 0Ch CACHE_LINE_SIZE, LATENCY_TIMER, HEADER_TYPE, BIST
    ∷ 0x00 ∷ 0x00 ∷ 0x00 ∷ 0x00  -- 10h BASE_ADDRESS_0
    ∷ 0x00 ∷ 0x00 ∷ 0x00 ∷ 0x00  -- 14h BASE_ADDRESS_1
    ∷ 0x00 ∷ 0x00 ∷ 0x00 ∷ 0x00  -- 18h PRIMARY_BUS, SECONDARY_BUS, SUBORDINATE_BUS, SEC_LATENCY_TIMER
    ∷ 0x01 ∷ 0x01 ∷ 0x00 ∷ 0x00  -- 1Ch IO_BASE, IO_LIMIT, SEC_STATUS
    ∷ 0x00 ∷ 0x00 ∷ 0x00 ∷ 0x00  -- 20h MEMORY_BASE, MEMORY_LIMIT
    ∷ 0x01 ∷ 0x00 ∷ 0x01 ∷ 0x00  -- 24h PREF_MEMORY_BASE, PREF_MEMORY_LIMIT
    ∷ 0x00 ∷ 0x00 ∷ 0x00 ∷ 0x00  -- 28h PREF_BASE_UPPER32
    ∷ 0x00 ∷ 0x00 ∷ 0x00 ∷ 0x00  -- 2Ch PREF_LIMIT_UPPER32
    ∷ 0x00 ∷ 0x00 ∷ 0x00 ∷ 0x00  -- 30h IO_BASE_UPPER16, IO_LIMIT_UPPER16
    ∷ 0x00 ∷ 0x00 ∷ 0x00 ∷ 0x00  -- 34h CAPABILITY_LIST
    ∷ 0x00 ∷ 0x00 ∷ 0x00 ∷ 0x00  -- 38h ROM_ADDRESS1
    ∷ 0x00 ∷ 0x00 ∷ 0x00 ∷ 0x00 ∷ []  -- 3Ch INTERRUPT_LINE, INTERRUPT_PIN, BRIDGE_CONTROL

-- an older bridge's writable bits. 02, E11: '30h to 33h are fixed 0', '28h to 2Fh are fixed 0', 'VGA 16-bit decode .. is fixed 0'
abbrev pub older_bridge_write : List ℕ
older_bridge_write =
    0x00 ∷ 0x00 ∷ 0x00 ∷ 0x00  -- 00h VENDOR_ID, DEVICE_ID
    ∷ 0x47 ∷ 0x01 ∷ 0x00 ∷ 0x00  -- 04h COMMAND, STATUS
    ∷ 0x00 ∷ 0x00 ∷ 0x00 ∷ 0x00  -- 08h REVISION_ID, CLASS_PROG, CLASS_DEVICE
    ∷ 0xff ∷ 0xff ∷ 0x00 ∷ 0x00  -- 0Ch CACHE_LINE_SIZE, LATENCY_TIMER, HEADER_TYPE, BIST
    ∷ 0x00 ∷ 0x00 ∷ 0x00 ∷ 0x00  -- 10h BASE_ADDRESS_0
    ∷ 0x00 ∷ 0x00 ∷ 0x00 ∷ 0x00  -- 14h BASE_ADDRESS_1
    ∷ 0xff ∷ 0xff ∷ 0xff ∷ 0xff  -- 18h PRIMARY_BUS, SECONDARY_BUS, SUBORDINATE_BUS, SEC_LATENCY_TIMER
    ∷ 0xf0 ∷ 0xf0 ∷ 0x00 ∷ 0x00  -- 1Ch IO_BASE, IO_LIMIT, SEC_STATUS
    ∷ 0xf0 ∷ 0xff ∷ 0xf0 ∷ 0xff  -- 20h MEMORY_BASE, MEMORY_LIMIT
    ∷ 0xf0 ∷ 0xff ∷ 0xf0 ∷ 0xff  -- 24h PREF_MEMORY_BASE, PREF_MEMORY_LIMIT
    ∷ 0x00 ∷ 0x00 ∷ 0x00 ∷ 0x00  -- 28h PREF_BASE_UPPER32
    ∷ 0x00 ∷ 0x00 ∷ 0x00 ∷ 0x00  -- 2Ch PREF_LIMIT_UPPER32
    ∷ 0x00 ∷ 0x00 ∷ 0x00 ∷ 0x00  -- 30h IO_BASE_UPPER16, IO_LIMIT_UPPER16
    ∷ 0x00 ∷ 0x00 ∷ 0x00 ∷ 0x00  -- 34h CAPABILITY_LIST
    ∷ 0x00 ∷ 0x00 ∷ 0x00 ∷ 0x00  -- 38h ROM_ADDRESS1
    ∷ 0xff ∷ 0x00 ∷ 0x6f ∷ 0x00 ∷ []  -- 3Ch INTERRUPT_LINE, INTERRUPT_PIN, BRIDGE_CONTROL

-- an older bridge's reset values, its IDs aside. 02, E11: 'I/O base and limit reset to 00', 'prefetchable base and limit reset to 0000h'
abbrev pub older_bridge_reset : List ℕ
older_bridge_reset =
    0x00 ∷ 0x00 ∷ 0x00 ∷ 0x00  -- 00h VENDOR_ID, DEVICE_ID
    ∷ 0x00 ∷ 0x00 ∷ 0x00 ∷ 0x00  -- 04h COMMAND, STATUS
    ∷ 0x00 ∷ 0x00 ∷ 0x04 ∷ 0x06  -- 08h REVISION_ID, CLASS_PROG, CLASS_DEVICE
    ∷ 0x00 ∷ 0x00 ∷ 0x01 ∷ 0x00  -- 0Ch CACHE_LINE_SIZE, LATENCY_TIMER, HEADER_TYPE, BIST
    ∷ 0x00 ∷ 0x00 ∷ 0x00 ∷ 0x00  -- 10h BASE_ADDRESS_0
    ∷ 0x00 ∷ 0x00 ∷ 0x00 ∷ 0x00  -- 14h BASE_ADDRESS_1
    ∷ 0x00 ∷ 0x00 ∷ 0x00 ∷ 0x00  -- 18h PRIMARY_BUS, SECONDARY_BUS, SUBORDINATE_BUS, SEC_LATENCY_TIMER
    ∷ 0x00 ∷ 0x00 ∷ 0x00 ∷ 0x00  -- 1Ch IO_BASE, IO_LIMIT, SEC_STATUS
    ∷ 0x00 ∷ 0x00 ∷ 0x00 ∷ 0x00  -- 20h MEMORY_BASE, MEMORY_LIMIT
    ∷ 0x00 ∷ 0x00 ∷ 0x00 ∷ 0x00  -- 24h PREF_MEMORY_BASE, PREF_MEMORY_LIMIT
    ∷ 0x00 ∷ 0x00 ∷ 0x00 ∷ 0x00  -- 28h PREF_BASE_UPPER32
    ∷ 0x00 ∷ 0x00 ∷ 0x00 ∷ 0x00  -- 2Ch PREF_LIMIT_UPPER32
    ∷ 0x00 ∷ 0x00 ∷ 0x00 ∷ 0x00  -- 30h IO_BASE_UPPER16, IO_LIMIT_UPPER16
    ∷ 0x00 ∷ 0x00 ∷ 0x00 ∷ 0x00  -- 34h CAPABILITY_LIST
    ∷ 0x00 ∷ 0x00 ∷ 0x00 ∷ 0x00  -- 38h ROM_ADDRESS1
    ∷ 0x00 ∷ 0x00 ∷ 0x00 ∷ 0x00 ∷ []  -- 3Ch INTERRUPT_LINE, INTERRUPT_PIN, BRIDGE_CONTROL

-- a device's writable bits, its regions aside
abbrev pub device_write : List ℕ
device_write =
    0x00 ∷ 0x00 ∷ 0x00 ∷ 0x00  -- 00h VENDOR_ID, DEVICE_ID
    ∷ 0x47 ∷ 0x01 ∷ 0x00 ∷ 0x00  -- 04h COMMAND, STATUS
    ∷ 0x00 ∷ 0x00 ∷ 0x00 ∷ 0x00  -- 08h REVISION_ID, CLASS_PROG, CLASS_DEVICE
    ∷ 0xff ∷ 0xff ∷ 0x00 ∷ 0x00  -- 0Ch CACHE_LINE_SIZE, LATENCY_TIMER, HEADER_TYPE, BIST
    ∷ 0x00 ∷ 0x00 ∷ 0x00 ∷ 0x00  -- 10h BASE_ADDRESS_0
    ∷ 0x00 ∷ 0x00 ∷ 0x00 ∷ 0x00  -- 14h BASE_ADDRESS_1
    ∷ 0x00 ∷ 0x00 ∷ 0x00 ∷ 0x00  -- 18h BASE_ADDRESS_2
    ∷ 0x00 ∷ 0x00 ∷ 0x00 ∷ 0x00  -- 1Ch BASE_ADDRESS_3
    ∷ 0x00 ∷ 0x00 ∷ 0x00 ∷ 0x00  -- 20h BASE_ADDRESS_4
    ∷ 0x00 ∷ 0x00 ∷ 0x00 ∷ 0x00  -- 24h BASE_ADDRESS_5
    ∷ 0x00 ∷ 0x00 ∷ 0x00 ∷ 0x00  -- 28h CARDBUS_CIS
    ∷ 0x00 ∷ 0x00 ∷ 0x00 ∷ 0x00  -- 2Ch SUBSYSTEM_VENDOR_ID, SUBSYSTEM_ID
    ∷ 0x00 ∷ 0x00 ∷ 0x00 ∷ 0x00  -- 30h ROM_ADDRESS
    ∷ 0x00 ∷ 0x00 ∷ 0x00 ∷ 0x00  -- 34h CAPABILITY_LIST
    ∷ 0x00 ∷ 0x00 ∷ 0x00 ∷ 0x00  -- 38h reserved
    ∷ 0xff ∷ 0x00 ∷ 0x00 ∷ 0x00 ∷ []  -- 3Ch INTERRUPT_LINE, INTERRUPT_PIN, MIN_GNT, MAX_LAT

-- a device's bits cleared by writing 1: status, F900h
abbrev pub device_clear : List ℕ
device_clear =
    0x00 ∷ 0x00 ∷ 0x00 ∷ 0x00  -- 00h VENDOR_ID, DEVICE_ID
    ∷ 0x00 ∷ 0x00 ∷ 0x00 ∷ 0xf9  -- 04h COMMAND, STATUS
    ∷ 0x00 ∷ 0x00 ∷ 0x00 ∷ 0x00  -- 08h REVISION_ID, CLASS_PROG, CLASS_DEVICE
    ∷ 0x00 ∷ 0x00 ∷ 0x00 ∷ 0x00  -- 0Ch CACHE_LINE_SIZE, LATENCY_TIMER, HEADER_TYPE, BIST
    ∷ 0x00 ∷ 0x00 ∷ 0x00 ∷ 0x00  -- 10h BASE_ADDRESS_0
    ∷ 0x00 ∷ 0x00 ∷ 0x00 ∷ 0x00  -- 14h BASE_ADDRESS_1
    ∷ 0x00 ∷ 0x00 ∷ 0x00 ∷ 0x00  -- 18h BASE_ADDRESS_2
    ∷ 0x00 ∷ 0x00 ∷ 0x00 ∷ 0x00  -- 1Ch BASE_ADDRESS_3
    ∷ 0x00 ∷ 0x00 ∷ 0x00 ∷ 0x00  -- 20h BASE_ADDRESS_4
    ∷ 0x00 ∷ 0x00 ∷ 0x00 ∷ 0x00  -- 24h BASE_ADDRESS_5
    ∷ 0x00 ∷ 0x00 ∷ 0x00 ∷ 0x00  -- 28h CARDBUS_CIS
    ∷ 0x00 ∷ 0x00 ∷ 0x00 ∷ 0x00  -- 2Ch SUBSYSTEM_VENDOR_ID, SUBSYSTEM_ID
    ∷ 0x00 ∷ 0x00 ∷ 0x00 ∷ 0x00  -- 30h ROM_ADDRESS
    ∷ 0x00 ∷ 0x00 ∷ 0x00 ∷ 0x00  -- 34h CAPABILITY_LIST
    ∷ 0x00 ∷ 0x00 ∷ 0x00 ∷ 0x00  -- 38h reserved
    ∷ 0x00 ∷ 0x00 ∷ 0x00 ∷ 0x00 ∷ []  -- 3Ch INTERRUPT_LINE, INTERRUPT_PIN, MIN_GNT, MAX_LAT

-- a device's reset values, its IDs and regions aside
abbrev pub device_reset : List ℕ
device_reset =
    0x00 ∷ 0x00 ∷ 0x00 ∷ 0x00  -- 00h VENDOR_ID, DEVICE_ID
    ∷ 0x00 ∷ 0x00 ∷ 0x00 ∷ 0x00  -- 04h COMMAND, STATUS
    ∷ 0x00 ∷ 0x00 ∷ 0x00 ∷ 0xff  -- 08h REVISION_ID, CLASS_PROG, CLASS_DEVICE
    ∷ 0x00 ∷ 0x00 ∷ 0x00 ∷ 0x00  -- 0Ch CACHE_LINE_SIZE, LATENCY_TIMER, HEADER_TYPE, BIST
    ∷ 0x00 ∷ 0x00 ∷ 0x00 ∷ 0x00  -- 10h BASE_ADDRESS_0
    ∷ 0x00 ∷ 0x00 ∷ 0x00 ∷ 0x00  -- 14h BASE_ADDRESS_1
    ∷ 0x00 ∷ 0x00 ∷ 0x00 ∷ 0x00  -- 18h BASE_ADDRESS_2
    ∷ 0x00 ∷ 0x00 ∷ 0x00 ∷ 0x00  -- 1Ch BASE_ADDRESS_3
    ∷ 0x00 ∷ 0x00 ∷ 0x00 ∷ 0x00  -- 20h BASE_ADDRESS_4
    ∷ 0x00 ∷ 0x00 ∷ 0x00 ∷ 0x00  -- 24h BASE_ADDRESS_5
    ∷ 0x00 ∷ 0x00 ∷ 0x00 ∷ 0x00  -- 28h CARDBUS_CIS
    ∷ 0x00 ∷ 0x00 ∷ 0x00 ∷ 0x00  -- 2Ch SUBSYSTEM_VENDOR_ID, SUBSYSTEM_ID
    ∷ 0x00 ∷ 0x00 ∷ 0x00 ∷ 0x00  -- 30h ROM_ADDRESS
    ∷ 0x00 ∷ 0x00 ∷ 0x00 ∷ 0x00  -- 34h CAPABILITY_LIST
    ∷ 0x00 ∷ 0x00 ∷ 0x00 ∷ 0x00  -- 38h reserved
    ∷ 0x00 ∷ 0x00 ∷ 0x00 ∷ 0x00 ∷ []  -- 3Ch INTERRUPT_LINE, INTERRUPT_PIN, MIN_GNT, MAX_LAT

abbrev pub write_table : Kind → List ℕ
write_table Bridge = bridge_write
write_table OlderBridge = older_bridge_write
write_table Device = device_write

abbrev pub clear_table : Kind → List ℕ
clear_table Bridge = bridge_clear
clear_table OlderBridge = bridge_clear
clear_table Device = device_clear

abbrev pub reset_table : Kind → List ℕ
reset_table Bridge = bridge_reset
reset_table OlderBridge = older_bridge_reset
reset_table Device = device_reset
