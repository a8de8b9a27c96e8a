pub mod SameBraid
